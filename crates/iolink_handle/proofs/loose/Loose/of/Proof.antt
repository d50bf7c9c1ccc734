-- `of` keeps the pointer alone: the allocator is the C library's, and any of its handles frees.
use Rattle.iolink_handle.proofs.Handles.Steps.{List, [], ◌∷◌, ◌++◌, refl, sym, ap, subst, a_type, dcons, dnil, Val, inst_fn, full_share, ent, id⊢, ftrue, flft, fsep, WpFn, ‵, raw, ◌⊛◌, some, later, ◌$◌, ◌∵◌, !, qed, by, move, keep, drop, split, split3, join, fjoin, pick, use1, await, feq_l, agg, of_opd, no_more, and_then, returns, enter, alloc_all, pass_all, free_all, look_at, get, sets, lands_as, fact, fact_i, emp, ◌⊑◌, ⊑_refl, tables, no, plain, Ptr, RawPtr, param, layout, bounded, param_laws, glues, only, nothing, triple_of, calls_at, Stays, stay_dropped, walk_of, Goes-blank, fm, one, ghosts, dict, passed, box_owns, proved_at, leaves, block, Heap, heap_laws, undropped, Lasts, lasts, word, ptr_fits, word_fits, inside, known, also, ◌≡◌}
use Rattle.std.specs.contracts.alloc.Global as global
use Rattle.std.proofs.alloc.Global.TheLaws as global_laws
use Rattle.std_alloc.specs.contracts.boxed.Box as box
use Rattle.std_alloc.proofs.boxed.Box.TheLaws as box_laws
use Rattle.std_alloc.specs.contracts.boxed.Box.into_raw as callee
use Rattle.std_alloc.proofs.boxed.Box.into_raw.Met.{met}
use Rattle.iolink_handle.proofs.Destruct++none.drop.Code as no_drop
use Rattle.iolink_handle.specs.contracts.loose.Loose.of.{ended, clauses}
use Rattle.iolink_handle.specs.contracts.loose.Loose.of.Key.{name as #self}
use Rattle.iolink_handle.proofs.loose.Loose.of.Statement.{statement}
use Rattle.iolink_handle.proofs.loose.Loose.of.Code as code

pub of_spec : {M : Type 1} → statement M
unfolding no_drop.code
of_spec {M} 𝓤 𝓛 𝓜 𝓡 wired T L dx glue =
    let H = 𝓛.H in let 𝓣 = tables 𝓤 H 𝓜 𝓡 𝓡.env in
    let B = box.the_row (param 0 T) global.the_row ghosts in
    let LB = box_laws.the_row_laws (param 0 T) global.the_row ghosts (param_laws 0 T L)
    global_laws.the_row_laws in
    let En = ended T dx in let c = clauses T dx 𝓛 𝓜.mem 𝓡.returns in
    let args = bounded (a_type ∷ []) (T, tt) (dcons dx dnil) in
    let fn = inst_fn args code.function in
    let hs : Stays En.signature.params En.kept = (stay_dropped (plain (λ _. B)) no, tt) in
    let W = walk_of 𝓛 En hs c in
    let k = triple_of 𝓛 (callee.signature T Heap ghosts dict undropped dx)
    (callee.spec T Heap ghosts dict undropped dx 𝓛 𝓜.mem 𝓡.returns) in
    let k_met = met 𝓤 𝓛 𝓜 𝓡 (code.calls-std_alloc::boxed::Box::into_raw 𝓡.env wired) T Heap L
    heap_laws ghosts dict
    undropped dx (passed 𝓡.env (code.calls-std_heap::GlobalAllocator::allocate 𝓡.env wired)
    (code.calls-std_heap::GlobalAllocator::deallocate 𝓡.env wired)
    (code.calls-std_heap::GlobalAllocator::grow 𝓡.env wired)
    (code.calls-std_heap::GlobalAllocator::shrink 𝓡.env wired) M 𝓤 𝓛 𝓜 𝓡)
    (glues _ 𝓡.env (code.calls-iolink_handle::Destruct++none::drop 𝓡.env wired) Heap heap_laws M
    𝓤 𝓛 𝓜 𝓡) glue in
    proved_at 𝓛 En hs c 𝓜 𝓡 (Goes-blank 𝓛 1 (plain (λ _. B)) no (λ κs v w. tt), tt) (#self args) fn
    (code.unfolded 𝓤 H 𝓜 𝓡 wired (T, tt) dx) (λ z are.
    let κ = z.0.0.0 in let q = z.0.1.0 in let v = z.0.3.0 in
    let w = one (layout B) z.0.4.0 ((LB.lawful 𝓛).typed v z.0.4.0 are.0) in
    let y : List Val → W.Ghost = λ us. ((z.0.0, z.0.1, z.0.2, z.0.3, (us, tt)), tt) in
    let x : k.Ghost = (((κ, ([], tt)), (q, (full_share, tt)), tt, z.0.3, (w.0 ∷ [], tt)), tt) in
    subst (λ (us : List Val). ent 𝓤 (W.pre (y us))
    (WpFn 𝓤 H 𝓣.C 𝓣.Λ fn (us ++ []) (W.post (y us)))) (sym w.1) (
    qed 𝓛 (((‵ (flft κ q) ⊛ ‵ ftrue) ⊛ ‵ (fsep (B.own_val v (w.0 ∷ [])) ftrue)) ∷
    (raw (fact 𝓤 (κ ⊑ T.lives)) ⊛ ‵ ftrue)
    ∷ []) ∵ split ! $ also ! (‵ (flft [] full_share)) (𝓛.lfts.lft-nil full_share) $ join ! $
    move ! (1 ∷ []) $
    also ! (raw (fact 𝓤 ([] ⊑ Heap.lives))) (fact_i 𝓤 ([] ⊑ Heap.lives) (emp 𝓤) (⊑_refl [])) $
    move ! (1 ∷ 0 ∷ []) $ join ! $ use1 𝓛 (raw (k.pre x)) (id⊢ 𝓤 _) $
    enter ! 𝓣.C 𝓣.Λ fn (w.0 ∷ []) _ $ alloc_all ! (λ l. pass_all ! refl (w.2, tt) $
    sets ! (of_opd ! (get ! refl)) refl w.2 $
    calls_at ! (fm 𝓛 𝓜 𝓡) k k_met x (and_then ! (get ! refl) (no_more !)) (λ u.
    let end = callee.ended T Heap ghosts dict undropped dx in use1 𝓛 (later (some (λ (r : Ptr).
    ((‵ (flft κ q) ⊛ ‵ (flft [] full_share) ⊛ ‵ ftrue) ⊛ ‵ (RawPtr.own_val r (u ∷ []))) ⊛
    some (λ (ls : Lasts end x.0.0 x.0.3). ‵ (lasts end x.0.0 x.0.3 ls) ⊛
    ‵ (box_owns block (param 0 T) r v.value))))) (id⊢ 𝓤 _) $
    await ! tt $ pick ! (λ r. split ! $ split ! $ move ! (1 ∷ []) $ feq_l !
    (λ e. split3 ! $ move ! (3 ∷ []) $
    pick ! (λ _. split ! $ drop ! $ lands_as ! (ap only e) refl (ptr_fits r) $
    sets ! (agg ! (and_then ! (get ! refl) (no_more !))) refl (word_fits r) $
    returns ! (look_at ! 0 refl) $ free_all ! refl $ inside ! r $ fjoin ! $ move ! (1 ∷ 3 ∷ [])
    $ join ! $
    known ! (v.value ≡ v.value) refl $ nothing ! $ nothing ! $ fjoin ! $ keep !
    (2 ∷ 0 ∷ 3 ∷ 1 ∷ []) $
    by ! (leaves 𝓛 En hs c (y (w.0 ∷ [])) (word r) (record { at = r; value = v.value }) (tt, tt)
    (tt, tt)))))))))
