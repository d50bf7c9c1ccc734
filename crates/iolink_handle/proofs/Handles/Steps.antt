-- What the walks of this crate cite; and of a struct of one pointer its machine value and what its
-- field owns, which is had for nothing. Assumes `Logic`.
-- For the clauses of `Loose::into_box` and `Loose::of`.
pub use Rattle.std.proofs.Common.{◌≡◌, List, [], ◌∷◌, ◌++◌, refl, sym, ap, ◌∙◌, subst, Bool, true, false}
pub use lib.Dec.{T, lit<}
pub use seplogic.Ra.Ura.{Ura}
pub use mir.Syntax.{Sym, Ty, Fn, Local, Body, Callee, Dict, ty_ptr, local, value_local, seq, assign, place, field, rv_opd, copy, aggregate, int, w64, return, a_type, impl, tcons, tnil, dcons, dnil}
pub use mir.Val.{Val, vstruct, vcons, vnil, has_ty, WT}
pub use mir.MapTy.{inst_fn}
pub use mir.Raw.{raw as bare}
pub use base.Fraction.{full_share}
pub use base.Logic.{ent, sep, emp, id⊢}
pub use base.Fml.{Fml, ftrue, fsep, flft}
pub use prog.Wp.{Calls, Loops, Closed, WpFn}
pub use prog.Model.{Model}
pub use types.Logic.{Logic}
pub use types.Kit.{‵, raw, ◌⊛◌, some, later, at_ret, ◌$◌, ◌∵◌, !, qed, by, move, keep, drop, split, split3, join, fsplit, fjoin, fjoin3, fpack, feq_i, feq_l, pick, await, rewrite, use0, use1}
pub use types.Part.{whole, sub, agg}
pub use types.Run.{stop, fld, of_opd, lit, no_more, and_then, first, blocks, exec, returns, enter}
pub use types.ByLocal.{alloc_all, pass_all, free_all, look_at, get, get_in, sets, lands_as, lands_last, env}
pub use contract.Monad.{fact, fact_i}
pub use contract.BorrowLft.{◌⊑◌, ⊑_refl}
pub use contract.Running.{Running, tables}
pub use denote.RattleType.{RattleType, Valss}
pub use denote.Builtin.{RawPtr}
pub use denote.RawPtr.{Ptr, null_ptr, block_ptr, ptr_val}
pub use denote.Laws.{Is, Tells, shows}
pub use denote.Param.{param, arg, layout, bounded}
pub use denote.Param.Laws.{Laws, param_laws, arg_laws}
pub use denote.Param.Mute.{blank}
pub use denote.Param.NoDrop.{glues}
pub use denote.Exit.{yes, no, Last, left, rest}
pub use denote.Signature.{plain}
pub use denote.Steps.{nothing, heard, only, peeks}
pub use denote.Struct.Laws.{RawPtr-laws}
pub use denote.Struct.OwningLaws.{Tells-lowered}
pub use denote.Struct.Struct.{Shape, Struct, within}
pub use denote.Struct.Tuple.{Tuple}
pub use denote.Triple.Clauses.{Ended, Clauses, closing, Lasts, lasts}
pub use denote.Triple.Spec.{Meets, triple_of}
pub use denote.Triple.Call.{calls_at, calls_at_last}
pub use denote.Triple.Walked.{Stays, stay_dropped, walk_of, Goes-dropped}
pub use Rattle.core.proofs.alloc.Calls.{Goes-blank}
pub use Rattle.core.proofs.alloc.Shapes.{after}
pub use Rattle.core.proofs.atomic.Steps.{fm}
pub use Rattle.core.proofs.cell.Inside.{one}
pub use Rattle.std.specs.contracts.impls.GlobalAllocator.TheImpl.{ghosts, dict}
pub use Rattle.std.proofs.impls.GlobalAllocator.TheImpl.Met.{passed}
pub use Rattle.std.proofs.raw_atomic.Walks.{proved, proved_at, leaves}
pub use Rattle.std_alloc.specs.Box.Ownership.{box_owns}
pub use Rattle.iolink_handle.specs.Heap.{block, handle_owns}
use types.Kit.{Item, Goal, Step, step, mean}
use mathlib.Core.Bool.{◌&&◌}
use denote.RawPtr.{rawptr_pure}
use denote.Steps.{owned}
use denote.Struct.Struct.{Struct-Makes}
use Rattle.std.specs.contracts.alloc.Global as global
use Rattle.std.proofs.alloc.Global.TheLaws as global_laws

abbrev pub word : Ptr → Val
word p = vstruct (vcons (ptr_val p) vnil)

-- null and a pointer, each in its struct, as a pair
abbrev pub null_and : Ptr → Val
null_and p = vstruct (vcons (word null_ptr) (vcons (word p) vnil))

pub ptr_fits : (p : Ptr) → T (has_ty ty_ptr (ptr_val p)) × WT (ptr_val p)
ptr_fits (block_ptr b o) = (tt, tt)
ptr_fits null_ptr = (tt, record { fits = lit< tt })

pub word_fits : (p : Ptr) → T (has_ty ty_ptr (ptr_val p) && true) × WT (word p)
word_fits (block_ptr b o) = (tt, (tt, tt))
word_fits null_ptr = (tt, (record { fits = lit< tt }, tt))

pub null_and_fits : (p : Ptr) → T ((has_ty ty_ptr (ptr_val p) && true) && true) × WT (null_and p)
null_and_fits (block_ptr b o) = (tt, ((record { fits = lit< tt }, tt), ((tt, tt), tt)))
null_and_fits null_ptr = (
  tt,
  (
    (record { fits = lit< tt }, tt),
    ((record { fits = lit< tt }, tt), tt),
  ),
)

-- the struct of this name
abbrev pub one_pointer : Sym → Shape
one_pointer ν = record { name = ν; args = []; types = []; fields = RawPtr ∷ [] }

abbrev pub Inside : RattleType
Inside = Struct (one_pointer [])

-- the C library's allocator, as a call passes it for a type parameter
abbrev pub Heap : RattleType
Heap = arg (bare (layout global.the_row)) no global.the_row

abbrev pub heap_laws : Laws Heap
heap_laws = arg_laws (bare (layout global.the_row)) no global.the_row global_laws.the_row_laws refl

abbrev pub undropped : Dict
undropped = impl ("iolink_handle::Destruct++none::drop" ∷ []) (tcons (layout Heap) tnil) dnil

module _ {M : Type 1} {𝓤 : Ura M} {𝓛 : Logic 𝓤} {K : Type 0} {Γ : List (Item 𝓤)}
    {G : Goal 𝓤 𝓛.H} where
  pub inside : K → (p : Ptr) → Step K 𝓛 (‵ (Inside.own_val (p, tt) (word p ∷ [])) ∷ Γ) G Γ G
  inside t p = owned t Inside (Is Inside) (Struct-Makes 𝓛 (one_pointer []) (rawptr_pure, tt))
      (p, tt) (word p ∷ [])
      ((ptr_val p ∷ [], tt), (refl, (refl, tt)))

  -- a fact that holds
  pub known : K → (φ : Type 0) → φ → Step K 𝓛 (raw (fact 𝓤 φ) ∷ Γ) G Γ G
  known t φ h = use0 𝓛 (raw (fact 𝓤 φ)) (fact_i 𝓤 φ (emp 𝓤) h)

  -- a list of one more
  pub also : K → {i : Item 𝓤} (j : Item 𝓤) → ent 𝓤 (emp 𝓤) (mean 𝓛 j)
      → Step K 𝓛 ((i ⊛ j ⊛ ‵ ftrue) ∷ Γ) G ((i ⊛ ‵ ftrue) ∷ Γ) G
  also t j h = step (λ s. split t $ use0 𝓛 j h $ move t (0 ∷ 2 ∷ []) $ join t $ move t
      (1 ∷ 0 ∷ []) $ join t $ s)
