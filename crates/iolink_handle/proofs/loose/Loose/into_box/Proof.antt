-- `into_box` adds a handle of the C library's allocator.
use Rattle.iolink_handle.proofs.Handles.Steps.{List, [], ◌∷◌, refl, a_type, dcons, dnil, Val, inst_fn, full_share, id⊢, ftrue, flft, fsep, ‵, raw, ◌⊛◌, some, later, at_ret, ◌$◌, ◌∵◌, !, qed, by, move, keep, drop, split, split3, join, fsplit, fjoin, pick, use1, await, feq_i, sub, whole, stop, fld, of_opd, no_more, and_then, first, blocks, exec, returns, enter, alloc_all, pass_all, free_all, look_at, get, get_in, sets, lands_last, env, fact, ◌⊑◌, ⊑_refl, tables, no, yes, plain, ptr_val, param, bounded, param_laws, glues, Is, shows, nothing, peeks, RawPtr-laws, Tells-lowered, Lasts, lasts, triple_of, calls_at_last, Stays, stay_dropped, walk_of, Goes-dropped, Goes-blank, after, fm, ghosts, dict, passed, proved, leaves, Heap, heap_laws, undropped, word, ptr_fits, word_fits, known, also, ◌≡◌}
use Rattle.std.specs.contracts.alloc.Global as global
use Rattle.std.proofs.alloc.Global.TheLaws as global_laws
use Rattle.std_alloc.specs.contracts.boxed.Box as box
use Rattle.std_alloc.proofs.boxed.Box.TheLaws as box_laws
use Rattle.std_alloc.specs.contracts.boxed.Box.from_raw as callee
use Rattle.std_alloc.proofs.boxed.Box.from_raw.Met.{met}
use Rattle.iolink_handle.proofs.Destruct++none.drop.Code as no_drop
use Rattle.iolink_handle.specs.contracts.loose.Loose as loose
use Rattle.iolink_handle.specs.contracts.loose.Loose.into_box.{ended, clauses}
use Rattle.iolink_handle.specs.contracts.loose.Loose.into_box.Key.{name as #self}
use Rattle.iolink_handle.proofs.loose.Loose.into_box.Statement.{statement}
use Rattle.iolink_handle.proofs.loose.Loose.into_box.Code as code

pub into_box_spec : {M : Type 1} → statement M
unfolding no_drop.code
into_box_spec {M} 𝓤 𝓛 𝓜 𝓡 wired T L dx glue =
    let H = 𝓛.H in let 𝓣 = tables 𝓤 H 𝓜 𝓡 𝓡.env in let R = param 0 T in let G = global.the_row in
    let lo = global_laws.lowered in let Lo = loose.the_row R in let B = box.the_row R G ghosts in
    let LB = box_laws.the_row_laws R G ghosts (param_laws 0 T L) global_laws.the_row_laws in
    let En = ended T dx in let c = clauses T dx 𝓛 𝓜.mem 𝓡.returns in
    let args = bounded (a_type ∷ []) (T, tt) (dcons dx dnil) in
    let fn = inst_fn args code.function in
    let hs : Stays En.signature.params En.kept =
    (stay_dropped (plain (λ _. Lo)) no, (stay_dropped (plain (λ _. G)) yes, tt)) in
    let W = walk_of 𝓛 En hs c in
    let k = triple_of 𝓛 (callee.signature T Heap ghosts dict undropped)
    (callee.spec T Heap ghosts dict undropped 𝓛 𝓜.mem 𝓡.returns) in
    let k_met = met 𝓤 𝓛 𝓜 𝓡 (code.calls-std_alloc::boxed::Box::from_raw 𝓡.env wired) T Heap L
    heap_laws ghosts dict
    undropped (passed 𝓡.env (code.calls-std_heap::GlobalAllocator::allocate 𝓡.env wired)
    (code.calls-std_heap::GlobalAllocator::deallocate 𝓡.env wired)
    (code.calls-std_heap::GlobalAllocator::grow 𝓡.env wired)
    (code.calls-std_heap::GlobalAllocator::shrink 𝓡.env wired) M 𝓤 𝓛 𝓜 𝓡)
    (glues _ 𝓡.env (code.calls-iolink_handle::Destruct++none::drop 𝓡.env wired) Heap heap_laws M
    𝓤 𝓛 𝓜 𝓡) in
    let goes = Goes-blank 𝓛 1 (plain (λ _. Lo)) no (λ κs v w. tt) in
    let drops = Goes-dropped 𝓛 1 (plain (λ _. G)) yes (λ κs v w. refl) in
    proved 𝓛 En hs c 𝓜 𝓡 (goes, (drops, tt)) (#self args) fn
    (code.unfolded 𝓤 H 𝓜 𝓡 wired (T, tt) dx)
    (λ κs. (λ v. word v.at ∷ [], (λ a. lo a ∷ [], tt)))
    (λ κs. (Tells-lowered (loose.the_type R) (RawPtr-laws, tt), (global_laws.lowers.val_is, tt)))
    (λ κs qs bounds a _ are.
    let κ = κs.0 in let q = qs.0 in let v = a.0 in let g = a.1.0 in let p = v.at in
    let P = ptr_val p in
    let w = word p in let h = lo g in
    let y : W.Ghost = ((κs, qs, bounds, a, (w ∷ [], (h ∷ [], tt))), tt) in
    let x : k.Ghost = (
      (
        (κ, ([], tt)),
        (q, (full_share, tt)),
        tt,
        (g, (p, tt)),
        (h ∷ [], (P ∷ [], tt)),
      ),
      v.value,
    ) in
    qed 𝓛 (((‵ (flft κ q) ⊛ ‵ ftrue) ⊛ ‵
    (fsep (Lo.own_val v (w ∷ [])) (fsep (G.own_val g (h ∷ [])) ftrue)))
    ∷ (raw (fact 𝓤 (κ ⊑ T.lives)) ⊛ ‵ ftrue) ∷ []) ∵
    split ! $ also ! (‵ (flft [] full_share)) (𝓛.lfts.lft-nil full_share) $
    move ! (1 ∷ []) $ fsplit ! $ fsplit ! $ drop ! $ move ! (3 ∷ []) $ split ! $ move ! (2 ∷ []) $
    known ! ([] ⊑ Heap.lives) (⊑_refl []) $ join ! $ move ! (1 ∷ 0 ∷ []) $ join ! $
    move ! (2 ∷ []) $ fsplit ! $ move ! (1 ∷ []) $ feq_i ! (List Val) (P ∷ []) _ refl $ fjoin ! $
    move ! (1 ∷ 0 ∷ []) $ fjoin ! $ move ! (3 ∷ 0 ∷ []) $ join ! $ join ! $ use1 𝓛
    (raw (k.pre x)) (id⊢ 𝓤 _) $
    enter ! 𝓣.C 𝓣.Λ fn (w ∷ h ∷ []) _ $ alloc_all !
    (λ l. pass_all ! refl (word_fits p, ((tt, ((tt, tt), tt)), tt)) $
    sets ! (of_opd ! (get_in ! (fld ! refl (stop !)) (sub ! 0 refl (whole !)))) refl
    (ptr_fits p) $ first ! $ blocks ! $
    calls_at_last ! (fm 𝓛 𝓜 𝓡) k k_met x
    (and_then ! (get ! refl) (and_then ! (get ! refl) (no_more !))) (λ u.
    let end = callee.ended T Heap ghosts dict undropped in use1 𝓛 (later (some (λ (r : B.Denot).
    ((‵ (flft κ q) ⊛ ‵ (flft [] full_share) ⊛ ‵ ftrue) ⊛ ‵ (B.own_val r (u ∷ []))) ⊛
    some (λ (ls : Lasts end x.0.0 x.0.3). ‵ (lasts end x.0.0 x.0.3 ls) ⊛
    (raw (fact 𝓤 (r.value ≡ v.value)) ⊛ raw (fact 𝓤 (r.alloc ≡ g))))))) (id⊢ 𝓤 _) $
    await ! tt $ pick ! (λ r. split ! $ split ! $ split3 ! $ move ! (4 ∷ []) $ pick !
    (λ _. split3 ! $ drop ! $
    move ! (5 ∷ []) $ peeks ! B (Is B) (shows 𝓛 B) r (u ∷ [])
    (λ is. let fits = (LB.lawful 𝓛).typed r (u ∷ []) is in
    lands_last ! refl fits.0 $ exec ! 𝓣.C 𝓣.Λ (env fn.locals l) (after 2 fn.body)
    (at_ret _ (W.post y)) $
    sets ! (of_opd ! (get ! refl)) refl fits.0 $ returns ! (look_at ! 0 refl) $ free_all ! refl $
    move ! (3 ∷ 5 ∷ []) $ join ! $ nothing ! $ nothing ! $ fjoin ! $ nothing ! $ fjoin ! $ keep
    ! (1 ∷ 0 ∷ 2 ∷ 3 ∷ []) $
    by ! (leaves 𝓛 En hs c y u r (tt, (tt, tt)) (tt, (tt, tt)))))))))
