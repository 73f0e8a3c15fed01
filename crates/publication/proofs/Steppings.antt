-- Steps that follow each other.
use Rattle.std.proofs.Common.{◌≡◌, ℕ, ◌+◌, ◌≤◌, List, [], ◌∷◌, ◌++◌, length, append-nil, append_assoc, sym, refl, ap, ◌∙◌, subst, arith}
use Rattle.publication.specs.declared.pass.Pass.{Pass}
use Rattle.publication.specs.declared.step.WordStep.{WordStep}
use Rattle.publication.specs.Steps.{Keeps, Moved}
use Rattle.publication.specs.Claims.{Called, PartOfCall, TookCall, TookMore, exactly, padding_stores}

pub moves : {L P I : Type 0} (fits : L → P → Type 0) (pass_of : L → P → Pass) (name : P → ℕ) (id : L → I) (l m n : L) (p q r : P) → Moved fits pass_of name id l p m q → Moved fits pass_of name id m q n r → Moved fits pass_of name id l p n r
moves fits pass_of name id l m n p q r a b = record {
  same = b.same ∙ a.same;
  still = b.still;
  named = b.named ∙ a.named;
  others = λ x ne ok. (let o = a.others x ne ok in let o' = b.others x (λ e. ne (e ∙ a.named)) o.0 in (o'.0, o'.1 ∙ o.1));
}

pub moves_none : {L P I : Type 0} (fits : L → P → Type 0) (pass_of : L → P → Pass) (name : P → ℕ) (id : L → I) (l : L) (p : P) → fits l p → Moved fits pass_of name id l p l p
moves_none fits pass_of name id l p ok = record { same = refl; still = ok; named = refl; others = λ x ne h. (h, refl) }

module _ {L P : Type 0} (took : L → P → L → P → List WordStep → ℕ → Type 0) (pass_of : L → P → Pass) where
  pub took_none : (l : L) (p : P) → took l p l p [] 0 → TookMore took pass_of l p l p 0
  took_none l p t = record { noted = []; steps = t; call = sym (append-nil (pass_of l p).call) }

  -- a word call that the call notes
  pub took_call : (l : L) (p : P) (m : L) (q : P) (x : WordStep) → took l p m q (x ∷ []) 0 → (pass_of m q).call ≡ (pass_of l p).call ++ x ∷ [] → TookMore took pass_of l p m q 0
  took_call l p m q x t e = record { noted = x ∷ []; steps = t; call = e }

  -- the word call with which a call begins
  pub took_first : (l : L) (p : P) (m : L) (q : P) (x : WordStep) → took l p m q (x ∷ []) 0 → (pass_of m q).call ≡ x ∷ [] → TookCall took pass_of l p m q 0
  took_first l p m q x t e = subst (λ (xs : List WordStep). took l p m q xs 0) (sym e) t

  -- so many stores
  pub took_stores : (l : L) (p : P) (m : L) (q : P) (n : ℕ) → took l p m q [] n → (pass_of m q).call ≡ (pass_of l p).call → TookMore took pass_of l p m q n
  took_stores l p m q n t e = record { noted = []; steps = t; call = e ∙ sym (append-nil (pass_of l p).call) }

  module _ (more : (l : L) (p : P) (m : L) (q : P) (n : L) (r : P) (xs ys : List WordStep) (a b : ℕ) → took l p m q xs a → took m q n r ys b → took l p n r (xs ++ ys) (a + b)) where
    pub took_more : (l : L) (p : P) (m : L) (q : P) (n : L) (r : P) (a b c : ℕ) → TookMore took pass_of l p m q a → TookMore took pass_of m q n r b → a + b ≡ c → TookMore took pass_of l p n r c
    took_more l p m q n r a b c s t e = record {
      noted = s.noted ++ t.noted;
      steps = subst (λ (k : ℕ). took l p n r (s.noted ++ t.noted) k) e (more l p m q n r s.noted t.noted a b s.steps t.steps);
      call = t.call ∙ ap (λ (xs : List WordStep). xs ++ t.noted) s.call ∙ append_assoc (pass_of l p).call s.noted t.noted;
    }

    -- behind the beginning of a call
    pub took_all : (l : L) (p : P) (m : L) (q : P) (n : L) (r : P) (a b c : ℕ) → TookCall took pass_of l p m q a → TookMore took pass_of m q n r b → a + b ≡ c → TookCall took pass_of l p n r c
    took_all l p m q n r a b c s t e = subst (λ (xs : List WordStep). took l p n r xs c) (sym t.call) (subst (λ (k : ℕ). took l p n r ((pass_of m q).call ++ t.noted) k) e (more l p m q n r (pass_of m q).call t.noted a b s t.steps))

    -- three loads, of which the first begins the call
    pub took_three : (l : L) (p : P) (l1 : L) (p1 : P) (l2 : L) (p2 : P) (l3 : L) (p3 : P) (x y z : WordStep) → took l p l1 p1 (x ∷ []) 0 → took l1 p1 l2 p2 (y ∷ []) 0 → took l2 p2 l3 p3 (z ∷ []) 0 → (pass_of l3 p3).call ≡ x ∷ y ∷ z ∷ [] → TookCall took pass_of l p l3 p3 0
    took_three l p l1 p1 l2 p2 l3 p3 x y z a b c e = subst (λ (xs : List WordStep). took l p l3 p3 xs 0) (sym e) (more l p l2 p2 l3 p3 (x ∷ y ∷ []) (z ∷ []) 0 0 (more l p l1 p1 l2 p2 (x ∷ []) (y ∷ []) 0 0 a b) c)

-- ---- calls, and more of calls

module _ {L P I : Type 0} (fits : L → P → Type 0) (pass_of : L → P → Pass) (name : P → ℕ) (id : L → I) (took : L → P → L → P → List WordStep → ℕ → Type 0) where
  -- a word call that the call notes
  pub goes_by : (l : L) (p : P) (m : L) (q : P) (x : WordStep) → Moved fits pass_of name id l p m q → took l p m q (x ∷ []) 0 → (pass_of m q).call ≡ (pass_of l p).call ++ x ∷ [] → PartOfCall fits pass_of name id took l p m q (exactly 0)
  goes_by l p m q x a t e = record { moved = a; took = took_call took pass_of l p m q x t e }

  -- so many stores
  pub goes_storing : (l : L) (p : P) (m : L) (q : P) (n : ℕ) → Moved fits pass_of name id l p m q → took l p m q [] n → (pass_of m q).call ≡ (pass_of l p).call → PartOfCall fits pass_of name id took l p m q (exactly n)
  goes_storing l p m q n a t e = record { moved = a; took = took_stores took pass_of l p m q n t e }

  module _ (more : (l : L) (p : P) (m : L) (q : P) (n : L) (r : P) (xs ys : List WordStep) (a b : ℕ) → took l p m q xs a → took m q n r ys b → took l p n r (xs ++ ys) (a + b)) where
    pub goes_further : (l : L) (p : P) (m : L) (q : P) (n : L) (r : P) (a b c : Pass → Pass → ℕ) → PartOfCall fits pass_of name id took l p m q a → PartOfCall fits pass_of name id took m q n r b → a (pass_of l p) (pass_of m q) + b (pass_of m q) (pass_of n r) ≡ c (pass_of l p) (pass_of n r) → PartOfCall fits pass_of name id took l p n r c
    goes_further l p m q n r a b c x y e = record {
      moved = moves fits pass_of name id l m n p q r x.moved y.moved;
      took = took_more took pass_of more l p m q n r (a (pass_of l p) (pass_of m q)) (b (pass_of m q) (pass_of n r)) (c (pass_of l p) (pass_of n r)) x.took y.took e;
    }

    -- behind the beginning of a call
    pub calls_further : (l : L) (p : P) (m : L) (q : P) (n : L) (r : P) (a b c : Pass → Pass → ℕ) → Called fits pass_of name id took l p m q a → PartOfCall fits pass_of name id took m q n r b → length (pass_of n r).call ≤ 7 → a (pass_of l p) (pass_of m q) + b (pass_of m q) (pass_of n r) ≡ c (pass_of l p) (pass_of n r) → Called fits pass_of name id took l p n r c
    calls_further l p m q n r a b c x y few e = record {
      moved = moves fits pass_of name id l m n p q r x.moved y.moved;
      took = took_all took pass_of more l p m q n r (a (pass_of l p) (pass_of m q)) (b (pass_of m q) (pass_of n r)) (c (pass_of l p) (pass_of n r)) x.took y.took e;
      few = few;
    }

    -- three loads, of which the first begins the call
    pub calls_three : (l : L) (p : P) (l1 : L) (p1 : P) (l2 : L) (p2 : P) (l3 : L) (p3 : P) (x y z : WordStep) → Moved fits pass_of name id l p l1 p1 → Moved fits pass_of name id l1 p1 l2 p2 → Moved fits pass_of name id l2 p2 l3 p3 → took l p l1 p1 (x ∷ []) 0 → took l1 p1 l2 p2 (y ∷ []) 0 → took l2 p2 l3 p3 (z ∷ []) 0 → (pass_of l3 p3).call ≡ x ∷ y ∷ z ∷ [] → Called fits pass_of name id took l p l3 p3 (exactly 0)
    calls_three l p l1 p1 l2 p2 l3 p3 x y z m1 m2 m3 a b c e = record {
      moved = moves fits pass_of name id l l2 l3 p p2 p3 (moves fits pass_of name id l l1 l2 p p1 p2 m1 m2) m3;
      took = took_three took pass_of more l p l1 p1 l2 p2 l3 p3 x y z a b c e;
      few = (let n = ap (λ (xs : List WordStep). length xs) e in omega (arith, n));
    }

  -- the word call with which a call begins
  pub calls_first : (l : L) (p : P) (m : L) (q : P) (x : WordStep) → Moved fits pass_of name id l p m q → took l p m q (x ∷ []) 0 → (pass_of m q).call ≡ x ∷ [] → Called fits pass_of name id took l p m q (exactly 0)
  calls_first l p m q x a t e = record { moved = a; took = took_first took pass_of l p m q x t e; few = (let n = ap (λ (xs : List WordStep). length xs) e in omega (arith, n)) }

  -- as many words, said otherwise
  pub calls_as : (l : L) (p : P) (m : L) (q : P) (a c : Pass → Pass → ℕ) → Called fits pass_of name id took l p m q a → a (pass_of l p) (pass_of m q) ≡ c (pass_of l p) (pass_of m q) → Called fits pass_of name id took l p m q c
  calls_as l p m q a c x e = record { moved = x.moved; took = subst (λ (k : ℕ). took l p m q (pass_of m q).call k) e x.took; few = x.few }

  pub goes_as : (l : L) (p : P) (m : L) (q : P) (a c : Pass → Pass → ℕ) → PartOfCall fits pass_of name id took l p m q a → a (pass_of l p) (pass_of m q) ≡ c (pass_of l p) (pass_of m q) → PartOfCall fits pass_of name id took l p m q c
  goes_as l p m q a c x e = record { moved = x.moved; took = subst (λ (k : ℕ). TookMore took pass_of l p m q k) e x.took }

-- ---- the words of paddings, where a pass keeps its frames

pub frames_kept : (p q : Pass) → Keeps p q → length q.work.frames ≡ length p.work.frames
frames_kept p q k = ap (λ (u : Pass). length u.work.frames) k

pub none_padded : (p x q : Pass) → Keeps p x → Keeps x q → 0 + 0 ≡ padding_stores p q
none_padded p x q a b = let e = frames_kept p x a in let f = frames_kept x q b in omega (arith, e, f)

pub padded_behind : (p x q : Pass) → Keeps p x → 0 + padding_stores x q ≡ padding_stores p q
padded_behind p x q a = let e = frames_kept p x a in omega (arith, e)
