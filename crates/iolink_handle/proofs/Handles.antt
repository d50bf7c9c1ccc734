-- The struct of C in which a library holds a box: one pointer, which owns the box where the flag
-- says so. Each library has its own, since such a struct takes no type parameter; they differ in
-- names alone, so what makes one of a `Loose`, and takes the `Loose` out again, is proved here,
-- once.
-- Assumes `Logic`.
-- For the clauses of `iolink_device_c::DevicePointer::of_loose`,
--     `iolink_device_c::DevicePointer::take`, `iolink_params_c::ParamsPointer::of_loose` and 5
--     more.
pub mod Steps
use Steps.*
use Rattle.iolink_handle.specs.contracts.loose.Loose as loose

-- the pointer, whether it owns the box, and the value
abbrev pub Fields : RattleType → Type 0
Fields R = Ptr × (Bool × R.Denot)

abbrev pub owned_by : (R : RattleType) → Fields R → List Val → Fml
owned_by R f vs = fsep (Inside.own_val (f.0, tt) vs) (handle_owns R f.1.0 f.0 f.1.1)

-- a library's struct, whose box holds an R
pub record Handle (R : RattleType) : Type 2 where
  pub row : RattleType
  pub name : Sym
  pub fields : row.Denot → Fields R
  pub make : Fields R → row.Denot
  pub made : (f : Fields R) → fields (make f) ≡ f
  pub owns : (d : row.Denot) (vs : List Val) → row.own_val d vs ≡ owned_by R (fields d) vs
  pub tells : Tells row (Is row) (λ d. word (fields d).0 ∷ [])
  pub ends : (d : row.Denot) (w : Last (row.exit yes) d) → T (blank (left (row.exit yes) d w))

abbrev code : List Local → Body → Fn
code ls b = record {
  lifetimes = 0;
  outlives = [];
  ty_params = [];
  givens = 0;
  params = 1;
  locals = ls;
  body = b;
}

abbrev at : Ty → Local
at τ = local τ value_local

abbrev takes : RattleType → RattleType → Ended
takes X Y = record {
  signature = record {
    lifetimes = 0;
    outlives = [];
    params = plain (λ κs. X) ∷ [];
    result = plain (λ κs. Y);
  };
  kept = (yes, tt);
}

module _ {R : RattleType} (A : Handle R) where
  abbrev Lo : RattleType
  Lo = loose.the_row R

  -- what the struct and a `Loose` are in MIR
  abbrev C-row : RattleType
  C-row = Struct (one_pointer A.name)

  of_fields : (f : Fields R) → owned_by R f (word f.0 ∷ [])
      ≡ A.row.own_val (A.make f) (word f.0 ∷ [])
  of_fields f =
      ap (λ (g : Fields R). owned_by R g (word f.0 ∷ [])) (sym (A.made f))
      ∙ sym (A.owns (A.make f) (word f.0 ∷ []))

  abbrev pub of_clauses : {M : Type 1} {𝓤 : Ura M} → Clauses 𝓤 (takes Lo A.row)
  of_clauses {𝓤 = 𝓤} κs a = record {
    ghost = Unit {0};
    requires = λ _. emp 𝓤;
    ensures = λ _ r _. sep 𝓤 (fact 𝓤 ((A.fields r).1.1 ≡ a.0.value))
        (fact 𝓤 ((A.fields r).1.0 ≡ true));
  }

  abbrev pub of_code : Fn
  of_code = code (at (layout C-row) ∷ at (layout Lo) ∷ at ty_ptr ∷ at ty_ptr ∷ [])
      (seq (assign (place 2 []) (rv_opd (copy (place 1 (field 0 ∷ [])))))
      (seq (assign (place 3 []) (rv_opd (copy (place 2 []))))
      (seq (assign (place 0 []) (aggregate (copy (place 3 []) ∷ []))) return)))

  abbrev pub take_clauses : {M : Type 1} {𝓤 : Ura M}
      → Clauses 𝓤 (takes A.row (Tuple (A.row ∷ Lo ∷ [])))
  take_clauses {𝓤 = 𝓤} κs a = record {
    ghost = Unit {0};
    requires = λ _. fact 𝓤 ((A.fields a.0).1.0 ≡ true);
    ensures = λ _ r _. sep 𝓤 (fact 𝓤 ((A.fields r.0).1.1 ≡ (A.fields a.0).1.1))
        (sep 𝓤 (fact 𝓤 ((A.fields r.0).1.0 ≡ false)) (fact 𝓤 (r.1.value ≡ (A.fields a.0).1.1)));
  }

  abbrev pub take_code : Fn
  take_code = code
      (at (layout (Tuple (C-row ∷ Lo ∷ []))) ∷ at (layout C-row)
      ∷ at ty_ptr ∷ at (layout C-row) ∷ at ty_ptr ∷ at (layout Lo) ∷ [])
      (seq (assign (place 2 []) (rv_opd (copy (place 1 (field 0 ∷ [])))))
      (seq (assign (place 3 []) (aggregate (int w64 0 ∷ [])))
      (seq (assign (place 4 []) (rv_opd (copy (place 2 []))))
      (seq (assign (place 5 []) (aggregate (copy (place 4 []) ∷ [])))
      (seq (assign (place 0 []) (aggregate (copy (place 3 []) ∷ copy (place 5 []) ∷ [])))
      return)))))

  module _ {M : Type 1} (𝓤 : Ura M) (𝓛 : Logic 𝓤) (𝓜 : Model 𝓤 𝓛.H) (𝓡 : Running 𝓤 𝓛.H 𝓜)
      (k : Callee) where
    abbrev C : Calls 𝓤 𝓛.H
    C = (tables 𝓤 𝓛.H 𝓜 𝓡 𝓡.env).C

    abbrev Λ : Loops 𝓤 𝓛.H
    Λ = (tables 𝓤 𝓛.H 𝓜 𝓡 𝓡.env).Λ

    abbrev pub Shown : Fn → (En : Ended) → Clauses 𝓤 En → Type 2
    Shown fn En c = Closed 𝓤 𝓛.H C Λ k fn → Meets 𝓛 En.signature (C k) (closing 𝓛 En c)

    -- a box that is taken apart is held
    pub of_loose : Shown of_code (takes Lo A.row) of_clauses
    of_loose unfolded =
        let En = takes Lo A.row in let c : Clauses 𝓤 En = of_clauses in
        let hs : Stays En.signature.params En.kept = (stay_dropped (plain (λ _. Lo)) yes, tt) in
        proved 𝓛 En hs c 𝓜 𝓡 (Goes-blank 𝓛 0 (plain (λ _. Lo)) yes (λ κs l w. tt), tt) k of_code
        unfolded
        (λ κs. (λ l. word l.at ∷ [], tt))
        (λ κs. (Tells-lowered (loose.the_type R) (RawPtr-laws, tt), tt))
        (λ κs qs bounds a _ are.
        let l = a.0 in let p = l.at in let f : Fields R = (p, (true, l.value)) in
        let h = A.make f in
        let y : (walk_of 𝓛 En hs c).Ghost = ((κs, qs, bounds, a, (word p ∷ [], tt)), tt) in
        qed 𝓛 ((‵ ftrue ⊛ ‵ (fsep (Lo.own_val l (word p ∷ [])) ftrue)) ∷ ‵ ftrue ∷ []) ∵
        split ! $ move ! (1 ∷ []) $ fsplit ! $ fsplit ! $ drop ! $
        enter ! C Λ of_code (word p ∷ []) _ $ alloc_all ! (λ b. pass_all ! refl (word_fits p, tt) $
        sets ! (of_opd ! (get_in ! (fld ! refl (stop !)) (sub ! 0 refl (whole !)))) refl
        (ptr_fits p) $
        sets ! (of_opd ! (get ! refl)) refl (ptr_fits p) $
        sets ! (agg ! (and_then ! (get ! refl) (no_more !))) refl (word_fits p) $
        returns ! (look_at ! 0 refl) $ free_all ! refl $
        inside ! p $ fjoin ! $ rewrite ! 0 (λ (F : Fml). ‵ F) (of_fields f) refl $
        known ! ((A.fields h).1.0 ≡ true) (ap (λ (g : Fields R). g.1.0) (A.made f)) $
        known ! ((A.fields h).1.1 ≡ l.value) (ap (λ (g : Fields R). g.1.1) (A.made f)) $ join ! $
        nothing ! $ nothing ! $ fjoin ! $ keep ! (4 ∷ 0 ∷ 2 ∷ 1 ∷ []) $
        by ! (leaves 𝓛 En hs c y (word p) h (tt, tt) (tt, tt))))

    -- a handle that holds a box gives it up, and points to nothing
    pub take : Shown take_code (takes A.row (Tuple (A.row ∷ Lo ∷ []))) take_clauses
    take unfolded =
        let En = takes A.row (Tuple (A.row ∷ Lo ∷ [])) in let c : Clauses 𝓤 En = take_clauses in
        let hs : Stays En.signature.params En.kept = (stay_dropped (plain (λ _. A.row)) yes, tt) in
        proved 𝓛 En hs c 𝓜 𝓡 (Goes-blank 𝓛 0 (plain (λ _. A.row)) yes (λ κs. A.ends), tt) k
        take_code unfolded
        (λ κs. (λ d. word (A.fields d).0 ∷ [], tt)) (λ κs. (A.tells, tt)) (λ κs qs bounds a _ are.
        let d = A.fields a.0 in let p = d.0 in let x = d.1.1 in
        let l : Lo.Denot = record { at = p; value = x } in
        let f : Fields R = (null_ptr, (false, x)) in let h = A.make f in
        let both : Shape = record { name = []; args = []; types = []; fields = A.row ∷ Lo ∷ [] } in
        let y : (walk_of 𝓛 En hs c).Ghost = ((κs, qs, bounds, a, (word p ∷ [], tt)), tt) in
        qed 𝓛 ((‵ ftrue ⊛ ‵ (fsep (A.row.own_val a.0 (word p ∷ [])) ftrue)) ∷ raw
        (fact 𝓤 (d.1.0 ≡ true)) ∷ []) ∵
        move ! (1 ∷ []) $ heard ! _ (λ opened. split ! $ move ! (1 ∷ []) $ fsplit ! $
        rewrite ! 0 (λ (F : Fml). ‵ F) (A.owns a.0 (word p ∷ [])) refl $ fsplit ! $ drop ! $
        rewrite ! 0 (λ (b : Bool). ‵ (handle_owns R b p x)) opened refl $
        enter ! C Λ take_code (word p ∷ []) _ $ alloc_all !
        (λ b. pass_all ! refl (word_fits p, tt) $
        sets ! (of_opd ! (get_in ! (fld ! refl (stop !)) (sub ! 0 refl (whole !)))) refl
        (ptr_fits p) $
        sets ! (agg ! (and_then ! (lit ! tt) (no_more !))) refl (word_fits null_ptr) $
        sets ! (of_opd ! (get ! refl)) refl (ptr_fits p) $
        sets ! (agg ! (and_then ! (get ! refl) (no_more !))) refl (word_fits p) $
        sets ! (agg ! (and_then ! (get ! refl) (and_then ! (get ! refl) (no_more !)))) refl
        (null_and_fits p) $
        returns ! (look_at ! 0 refl) $ free_all ! refl $ inside ! p $ fjoin ! $
        nothing ! $ inside ! null_ptr $ fjoin ! $ rewrite ! 0 (λ (F : Fml). ‵ F) (of_fields f)
        refl $ fjoin3 ! $
        feq_i ! (List Val) (null_and p ∷ []) (null_and p ∷ []) refl $ fjoin ! $
        fpack ! (Valss (A.row ∷ Lo ∷ [])) (within both (h, (l, tt)) (null_and p ∷ []))
        (word null_ptr ∷ [], (word p ∷ [], tt)) $
        known ! (l.value ≡ x) refl $
        known ! ((A.fields h).1.0 ≡ false) (ap (λ (g : Fields R). g.1.0) (A.made f)) $ join ! $
        known ! ((A.fields h).1.1 ≡ x) (ap (λ (g : Fields R). g.1.1) (A.made f)) $ join ! $
        nothing ! $ nothing ! $ fjoin ! $ keep ! (3 ∷ 0 ∷ 2 ∷ 1 ∷ []) $
        by ! (leaves 𝓛 En hs c y (null_and p) (h, l) (rest (A.row.exit yes) a.0, tt) (tt, tt)))))
