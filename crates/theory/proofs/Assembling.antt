-- An assembler gives a message exactly where a piece completes one.
use Rattle.std.proofs.Common.{◌≡◌, ℕ, ◌⊎◌, inl, inr, ⊎_elim, List, [], ◌∷◌, ◌++◌, true, false, cond, Option, None, Some, refl, sym, ap, ◌∙◌, append_assoc, append-nil}
use Rattle.std.specs.List.{AllByRecursion, flat_map}
use Rattle.std.specs.Prelude.{nat_eq}
use Rattle.std.proofs.lemmas.Bool.{cases_Bool, eqb-true, cond-true, cond-false}
use Rattle.theory.specs.Assembly.{Heard, on_frame, heard_more}
use Rattle.theory.specs.Completion.{Piece, begun_after, left_by, IsMiddle, EndsMessage, Completes, GivesWhole}

abbrev Flagged : Piece → Type 0
Flagged x = (x.flags ≡ 0) ⊎ ((x.flags ≡ 64) ⊎ ((x.flags ≡ 128) ⊎ (x.flags ≡ 192)))

-- the pieces leave this begun: a begin, and middles behind it
record IsBegun (before : List Piece) (y : List ℕ) : Type 0 where
  earlier : List Piece
  first : Piece
  middles : List Piece
  parts : before ≡ earlier ++ first ∷ middles
  begins : first.flags ≡ 128
  taken : first.refused ≡ false
  between : AllByRecursion IsMiddle middles
  joined : y ≡ first.payload ++ flat_map (λ (x : Piece). x.payload) middles

-- the pieces are all middles of what was begun before them
record GoesOn (b : Option (List ℕ)) (before : List Piece) (y : List ℕ) : Type 0 where
  front : List ℕ
  was : b ≡ Some front
  between : AllByRecursion IsMiddle before
  joined : y ≡ front ++ flat_map (λ (x : Piece). x.payload) before

at_flags : (b : Option (List ℕ)) (p : Piece) (flags : ℕ) → p.refused ≡ false → p.flags ≡ flags → left_by b p ≡ (on_frame b flags p.payload).begun
at_flags b p flags taken e = cond-false p.refused None (on_frame b p.flags p.payload).begun taken ∙ ap (λ f. (on_frame b f p.payload).begun) e

middle_begun : (b : Option (List ℕ)) (payload x : List ℕ) → (on_frame b 0 payload).begun ≡ Some x → (z : List ℕ) × (b ≡ Some z) × (x ≡ z ++ payload)
middle_begun None payload x e = absurd (cc)
middle_begun (Some z) payload x e = let same : z ++ payload ≡ x = cc in (z, refl, sym same)

end_begun : (b : Option (List ℕ)) (payload : List ℕ) → (on_frame b 64 payload).begun ≡ None
end_begun None payload = refl
end_begun (Some z) payload = refl

begun_from : (b : Option (List ℕ)) (before : List Piece) (y : List ℕ) → AllByRecursion Flagged before → begun_after b before ≡ Some y → IsBegun before y ⊎ GoesOn b before y
begun_from b [] y f e = inr (record { front = y; was = e; between = tt; joined = sym (append-nil y) })
begun_from b (p ∷ ps) y f e =
    ⊎_elim
    (λ (i : IsBegun ps y). inl (record { earlier = p ∷ i.earlier; first = i.first; middles = i.middles; parts = ap (λ x. p ∷ x) i.parts; begins = i.begins; taken = i.taken; between = i.between; joined = i.joined }))
    (λ (g : GoesOn (left_by b p) ps y).
    ⊎_elim
    (λ (r : p.refused ≡ true). let none : None ≡ Some g.front = sym (cond-true p.refused None (on_frame b p.flags p.payload).begun r) ∙ g.was in absurd (cc))
    (λ (t : p.refused ≡ false). by_flags t g f.0)
    (cases_Bool p.refused))
    (begun_from (left_by b p) ps y f.1 e)
  where
    by_flags : p.refused ≡ false → GoesOn (left_by b p) ps y → Flagged p → IsBegun (p ∷ ps) y ⊎ GoesOn b (p ∷ ps) y
    by_flags t g (inl zero_flags) =
        let m = middle_begun b p.payload g.front (sym (at_flags b p 0 t zero_flags) ∙ g.was) in
        inr (record { front = m.0; was = m.1; between = ((zero_flags, t), g.between); joined = g.joined ∙ ap (λ x. x ++ flat_map (λ (x : Piece). x.payload) ps) m.2 ∙ append_assoc m.0 p.payload (flat_map (λ (x : Piece). x.payload) ps) })
    by_flags t g (inr (inl ends)) = let none : None ≡ Some g.front = sym (end_begun b p.payload) ∙ sym (at_flags b p 64 t ends) ∙ g.was in absurd (cc)
    by_flags t g (inr (inr (inl begins))) =
        let same : Some p.payload ≡ Some g.front = sym (at_flags b p 128 t begins) ∙ g.was in
        let payload : p.payload ≡ g.front = cc in
        inl (record { earlier = []; first = p; middles = ps; parts = refl; begins = begins; taken = t; between = g.between; joined = g.joined ∙ ap (λ x. x ++ flat_map (λ (x : Piece). x.payload) ps) (sym payload) })
    by_flags t g (inr (inr (inr single))) = let none : None ≡ Some g.front = sym (at_flags b p 192 t single) ∙ g.was in absurd (cc)

begun-append : (b : Option (List ℕ)) (xs ys : List Piece) → begun_after b (xs ++ ys) ≡ begun_after (begun_after b xs) ys
begun-append b [] ys = refl
begun-append b (x ∷ xs) ys = begun-append (left_by b x) xs ys

goes_on : (front : List ℕ) (middles : List Piece) → AllByRecursion IsMiddle middles → begun_after (Some front) middles ≡ Some (front ++ flat_map (λ (x : Piece). x.payload) middles)
goes_on front [] h = ap Some (sym (append-nil front))
goes_on front (p ∷ ps) h =
    ap (λ b. begun_after b ps) (at_flags (Some front) p 0 h.0.1 h.0.0) ∙ goes_on (front ++ p.payload) ps h.1 ∙ ap Some (append_assoc front p.payload (flat_map (λ (x : Piece). x.payload) ps))

begun_to : (before : List Piece) (y : List ℕ) → IsBegun before y → begun_after None before ≡ Some y
begun_to before y i =
    ap (begun_after None) i.parts ∙ begun-append None i.earlier (i.first ∷ i.middles)
    ∙ ap (λ b. begun_after b i.middles) (at_flags (begun_after None i.earlier) i.first 128 i.taken i.begins)
    ∙ goes_on i.first.payload i.middles i.between ∙ ap Some (sym i.joined)

-- ---- what is given

end_message : (b : Option (List ℕ)) (payload message : List ℕ) → (on_frame b 64 payload).message ≡ Some message → (z : List ℕ) × (b ≡ Some z) × (message ≡ z ++ payload)
end_message None payload message e = absurd (cc)
end_message (Some z) payload message e = let same : z ++ payload ≡ message = cc in (z, refl, sym same)

other_message : (b : Option (List ℕ)) (flags : ℕ) (payload message : List ℕ) → nat_eq flags 64 ≡ false → (heard_more b flags payload).message ≡ Some message → ⊥
other_message None flags payload message n e = absurd (cc)
other_message (Some z) flags payload message n e =
    let none : None ≡ Some message = sym (ap (λ (h : Heard). h.message) (cond-false (nat_eq flags 64) (record { begun = None; message = Some (z ++ payload) }) (record { begun = Some (z ++ payload); message = None }) n)) ∙ e in
    absurd (cc)

ends_from : (before : List Piece) (p : Piece) (z message : List ℕ) → AllByRecursion Flagged before → p.flags ≡ 64 → begun_after None before ≡ Some z → message ≡ z ++ p.payload → EndsMessage before p message
ends_from before p z message f is b e =
    ⊎_elim
    (λ (i : IsBegun before z). record {
      is_end = is;
      earlier = i.earlier;
      first = i.first;
      middles = i.middles;
      parts = i.parts;
      begins = i.begins;
      taken = i.taken;
      between = i.between;
      joined = e ∙ ap (λ x. x ++ p.payload) i.joined;
    })
    (λ (g : GoesOn None before z). let never : None ≡ Some g.front = g.was in absurd (cc))
    (begun_from None before z f b)

gives_then : (before : List Piece) (p : Piece) (message : List ℕ) → AllByRecursion Flagged before → (on_frame (begun_after None before) p.flags p.payload).message ≡ Some message → Completes before p message
gives_then before p message f e =
    ⊎_elim
    (λ (t : nat_eq p.flags 192 ≡ true).
    let is : p.flags ≡ 192 = eqb-true p.flags 192 t in
    let same : Some p.payload ≡ Some message = sym (ap (λ x. (on_frame b x p.payload).message) is) ∙ e in
    inl (is, cc))
    (λ (n : nat_eq p.flags 192 ≡ false).
    ⊎_elim
    (λ (t : nat_eq p.flags 128 ≡ true).
    let is : p.flags ≡ 128 = eqb-true p.flags 128 t in
    let none : None ≡ Some message = sym (ap (λ x. (on_frame b x p.payload).message) is) ∙ e in
    absurd (cc))
    (λ (m : nat_eq p.flags 128 ≡ false).
    ⊎_elim
    (λ (t : nat_eq p.flags 64 ≡ true).
    let is : p.flags ≡ 64 = eqb-true p.flags 64 t in
    let given = end_message b p.payload message (sym (ap (λ x. (on_frame b x p.payload).message) is) ∙ e) in
    inr (ends_from before p given.0 message f is given.1 given.2))
    (λ (l : nat_eq p.flags 64 ≡ false).
    let plain : on_frame b p.flags p.payload ≡ heard_more b p.flags p.payload =
    cond-false (nat_eq p.flags 192) (record { begun = None; message = Some p.payload }) (cond (nat_eq p.flags 128) (record { begun = Some p.payload; message = None }) (heard_more b p.flags p.payload)) n
    ∙ cond-false (nat_eq p.flags 128) (record { begun = Some p.payload; message = None }) (heard_more b p.flags p.payload) m in
    absurd (other_message b p.flags p.payload message l (sym (ap (λ (h : Heard). h.message) plain) ∙ e)))
    (cases_Bool (nat_eq p.flags 64)))
    (cases_Bool (nat_eq p.flags 128)))
    (cases_Bool (nat_eq p.flags 192))
  where
    b : Option (List ℕ)
    b = begun_after None before

completes_then : (before : List Piece) (p : Piece) (message : List ℕ) → Completes before p message → (on_frame (begun_after None before) p.flags p.payload).message ≡ Some message
completes_then before p message (inl c) = ap (λ x. (on_frame (begun_after None before) x p.payload).message) c.0 ∙ ap Some (sym c.1)
completes_then before p message (inr c) =
    let y = c.first.payload ++ flat_map (λ (x : Piece). x.payload) c.middles in
    let b : begun_after None before ≡ Some y = begun_to before y (record { earlier = c.earlier; first = c.first; middles = c.middles; parts = c.parts; begins = c.begins; taken = c.taken; between = c.between; joined = refl }) in
    ap (λ x. (on_frame (begun_after None before) x p.payload).message) c.is_end ∙ ap (λ x. (on_frame x 64 p.payload).message) b ∙ ap Some (sym c.joined)

pub gives_whole : GivesWhole
gives_whole = λ before p message f. (gives_then before p message f, completes_then before p message)
