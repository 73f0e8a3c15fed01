-- Whose the bytes are after each event.
use Rattle.std.proofs.Common.{◌≡◌, ℕ, zero, suc, ◌+◌, ◌-◌, List, [], ◌∷◌, ◌++◌, cond, sym, ap, ◌∙◌, subst, arith}
use Rattle.std.specs.Prelude.{◌==◌}
use Rattle.theory.specs.Position.{span}
use Rattle.theory.specs.Entry.{Entry, length_of, entry_end}
use Rattle.theory.specs.Tiling.{handed, retire, share_of}
use Rattle.std.specs.Prelude.{map, slice_get, slice_set, Some}
use Rattle.model.specs.Log.{Log, LogEvent, LogStep, Look, Arm, Add, Miss, Store, Commit, Abort, Rotate, Clean, Raise, Connect, Close, Join, Leave, Move, Pass, Retire, aborted_at, entry_for, with_frame}
use Rattle.model.specs.World.{World, Event, AtLog, AtSender, AtImage, Open, Step, Run}
use Rattle.model.specs.Headline.{Always}
use Rattle.model.specs.StreamLaws.{HaveNoShare, RetiresForGood, SharesFollow}
use Rattle.std.proofs.Common.{⊎_elim, refl, Bool, true, false}
use Rattle.std.proofs.lemmas.Bool.{cases_Bool, eqb-true, eqb-false, ne_eqb}
use Rattle.theory.proofs.Tiling.{share-cons}

pub share-push : (o : ℕ) (es : List Entry) (e : Entry) → share_of o (es ++ e ∷ []) ≡ share_of o es + cond (e.owner == o) (length_of e) 0
share-push o [] e = share-cons o e [] ∙ omega arith
share-push o (x ∷ xs) e = omega (arith, share-cons o x (xs ++ e ∷ []), share-push o xs e, share-cons o x xs)

adds_to_owner : (others : List ℕ) (old new : Log) (by bytes : ℕ) → LogStep others old (Add by bytes) new → (o : ℕ) → share_of o new.entries ≡ share_of o old.entries + cond (by == o) (new.tail - old.tail) 0
adds_to_owner others old new by bytes h o =
    subst (λ (l : Log). share_of o l.entries ≡ share_of o old.entries + cond (by == o) (l.tail - old.tail) 0) (sym h.4)
    (share-push o old.entries (entry_for old by bytes) ∙ ap (λ n. share_of o old.entries + cond (by == o) n 0) whole)
  where
    whole : length_of (entry_for old by bytes) ≡ entry_end (entry_for old by bytes) - old.tail
    whole = omega arith

weight : ℕ → ℕ → ℕ → ℕ
weight owner o n = cond (owner == o) n 0

-- what a retired publisher's entry weighs
handed_weight : (a b x o n : ℕ) → (a ≡ b → ⊥) → cond (cond (x == b) a x == o) n 0 ≡ cond (b == o) 0 (cond (x == o) n 0 + cond (a == o) (cond (x == b) n 0) 0)
handed_weight a b x o n apart =
    ⊎_elim
    (λ (t : (x == b) ≡ true).
    let is : x ≡ b = eqb-true x b t in
    ⊎_elim
    (λ (u : (b == o) ≡ true). let same : b ≡ o = eqb-true b o u in let no : (a == o) ≡ false = ne_eqb a o (λ e. apart (e ∙ sym same)) in rw (t, u, no) refl)
    (λ (u : (b == o) ≡ false). let other : (x == o) ≡ false = ap (λ y. y == o) is ∙ u in rw (t, u, other) (omega arith))
    (cases_Bool (b == o)))
    (λ (f : (x == b) ≡ false).
    let differs = eqb-false x b f in
    ⊎_elim
    (λ (u : (b == o) ≡ true). let same : b ≡ o = eqb-true b o u in let no : (x == o) ≡ false = ne_eqb x o (λ e. differs (e ∙ sym same)) in rw (f, u, no) refl)
    (λ (u : (b == o) ≡ false). rw (f, u) (none (cond (x == o) n 0) (a == o)))
    (cases_Bool (b == o)))
    (cases_Bool (x == b))
  where
    none : (m : ℕ) (c : Bool) → m ≡ m + cond c 0 0
    none m true = omega arith
    none m false = omega arith

sums : (c d : Bool) (x y m n k l : ℕ) → x ≡ cond c 0 (m + cond d n 0) → y ≡ cond c 0 (k + cond d l 0) → x + y ≡ cond c 0 ((m + k) + cond d (n + l) 0)
sums true d x y m n k l e f = omega (arith, e, f)
sums false true x y m n k l e f = omega (arith, e, f)
sums false false x y m n k l e f = omega (arith, e, f)

retires_to : (a b : ℕ) (es : List Entry) (o : ℕ) → (a ≡ b → ⊥) → share_of o (retire a b es) ≡ cond (b == o) 0 (share_of o es + cond (a == o) (share_of b es) 0)
retires_to a b [] o apart = none (b == o) (a == o)
  where
    none : (c d : Bool) → 0 ≡ cond c 0 (0 + cond d 0 0)
    none true d = refl
    none false true = refl
    none false false = refl
retires_to a b (e ∷ es) o apart =
    share-cons o (handed a b e) (retire a b es)
    ∙ sums (b == o) (a == o) (cond (cond (e.owner == b) a e.owner == o) (length_of e) 0) (share_of o (retire a b es)) (cond (e.owner == o) (length_of e) 0) (cond (e.owner == b) (length_of e) 0) (share_of o es) (share_of b es) (handed_weight a b e.owner o (length_of e) apart) (retires_to a b es o apart)
    ∙ ap (λ x. cond (b == o) 0 (x + cond (a == o) (cond (e.owner == b) (length_of e) 0 + share_of b es) 0)) (sym (share-cons o e es))
    ∙ ap (λ x. cond (b == o) 0 (share_of o (e ∷ es) + cond (a == o) x 0)) (sym (share-cons b e es))

-- what keeps each entry's owner and cuts keeps the shares
same_shares : (f : Entry → Entry) → ((e : Entry) → (f e).owner ≡ e.owner) → ((e : Entry) → (f e).cuts ≡ e.cuts) → (o : ℕ) (es : List Entry) → share_of o (map f es) ≡ share_of o es
same_shares f owners cuts o [] = refl
same_shares f owners cuts o (e ∷ es) =
    share-cons o (f e) (map f es)
    ∙ ap (λ x. cond (x == o) (length_of (f e)) 0 + share_of o (map f es)) (owners e)
    ∙ ap (λ c. cond (e.owner == o) (span c) 0 + share_of o (map f es)) (cuts e)
    ∙ ap (λ n. cond (e.owner == o) (length_of e) 0 + n) (same_shares f owners cuts o es)
    ∙ sym (share-cons o e es)

same_entries : (old new : Log) (o : ℕ) → new.entries ≡ old.entries → share_of o new.entries ≡ share_of o old.entries
same_entries old new o e = ap (share_of o) e

pub shares_follow : SharesFollow
shares_follow others old new Look h o = same_entries old new o (ap (λ (l : Log). l.entries) h)
shares_follow others old new (Arm by seen) h o = same_entries old new o (ap (λ (l : Log). l.entries) h.3)
shares_follow others old new (Add by bytes) h o = adds_to_owner others old new by bytes h o
shares_follow others old new (Miss by) h o = same_entries old new o (ap (λ (l : Log). l.entries) h.1)
shares_follow others old new Store h o = same_entries old new o (ap (λ (l : Log). l.entries) h)
shares_follow others old new (Commit start f) h o = ap (λ (l : Log). share_of o l.entries) h.1 ∙ same_shares (with_frame start f) (λ e. refl) (λ e. refl) o old.entries
shares_follow others old new (Abort start) h o = ap (λ (l : Log). share_of o l.entries) h.1 ∙ same_shares (aborted_at start) (λ e. refl) (λ e. refl) o old.entries
shares_follow others old new Rotate h o = same_entries old new o (ap (λ (l : Log). l.entries) h)
shares_follow others old new (Clean least) h o = same_entries old new o (ap (λ (l : Log). l.entries) h.2)
shares_follow others old new (Raise least) h o = same_entries old new o (ap (λ (l : Log). l.entries) h.5)
shares_follow others old new (Connect on) h o = same_entries old new o (ap (λ (l : Log). l.entries) h)
shares_follow others old new Close h o = same_entries old new o (ap (λ (l : Log). l.entries) h)
shares_follow others old new (Join which at) h o = same_entries old new o (ap (λ (l : Log). l.entries) h.4)
shares_follow others old new (Leave which) h o = same_entries old new o (ap (λ (l : Log). l.entries) h.3)
shares_follow others old new (Move which past) h o = same_entries old new o (ap (λ (l : Log). l.entries) h.4)
shares_follow others old new (Pass which past) h o = same_entries old new o (ap (λ (l : Log). l.entries) h.3)
shares_follow others old new (Retire kept gone) h o = ap (λ (l : Log). share_of o l.entries) h.4 ∙ retires_to kept gone old.entries o h.2

-- ---- a retired number

pub retires_for_good : RetiresForGood
retires_for_good others old new Look h = ap (λ (l : Log). l.retired) h
retires_for_good others old new (Arm p seen) h = ap (λ (l : Log). l.retired) h.3
retires_for_good others old new (Add p bytes) h = ap (λ (l : Log). l.retired) h.4
retires_for_good others old new (Miss p) h = ap (λ (l : Log). l.retired) h.1
retires_for_good others old new Store h = ap (λ (l : Log). l.retired) h
retires_for_good others old new (Commit start f) h = ap (λ (l : Log). l.retired) h.1
retires_for_good others old new (Abort start) h = ap (λ (l : Log). l.retired) h.1
retires_for_good others old new Rotate h = ap (λ (l : Log). l.retired) h
retires_for_good others old new (Clean least) h = ap (λ (l : Log). l.retired) h.2
retires_for_good others old new (Raise least) h = ap (λ (l : Log). l.retired) h.5
retires_for_good others old new (Connect on) h = ap (λ (l : Log). l.retired) h
retires_for_good others old new Close h = ap (λ (l : Log). l.retired) h
retires_for_good others old new (Join which at) h = ap (λ (l : Log). l.retired) h.4
retires_for_good others old new (Leave which) h = ap (λ (l : Log). l.retired) h.3
retires_for_good others old new (Move which past) h = ap (λ (l : Log). l.retired) h.4
retires_for_good others old new (Pass which past) h = ap (λ (l : Log). l.retired) h.3
retires_for_good others old new (Retire kept gone) h = ap (λ (l : Log). l.retired) h.4

set_back : (xs : List Bool) (k by : ℕ) → (k ≡ by → ⊥) → slice_get (slice_set xs k true) by ≡ Some true → slice_get xs by ≡ Some true
set_back [] k by apart e = e
set_back (x ∷ xs) zero zero apart e = absurd (apart refl)
set_back (x ∷ xs) zero (suc by) apart e = e
set_back (x ∷ xs) (suc k) zero apart e = e
set_back (x ∷ xs) (suc k) (suc by) apart e = set_back xs k by (λ same. apart (ap (λ n. suc n) same)) e

-- a living number is no retired one
lives : (old : Log) (p by : ℕ) → slice_get old.retired p ≡ Some false → slice_get old.retired by ≡ Some true → (p == by) ≡ false
lives old p by living gone = ne_eqb p by (λ same. let both : slice_get old.retired p ≡ Some true = ap (λ k. slice_get old.retired k) same ∙ gone in let none : Some false ≡ Some true = sym living ∙ both in absurd (cc))

abbrev HasNone : Log → Type 0
HasNone l = (by : ℕ) → slice_get l.retired by ≡ Some true → share_of by l.entries ≡ 0

none_step : (others : List ℕ) (old new : Log) (e : LogEvent) → HasNone old → LogStep others old e new → HasNone new
none_step others old new (Add p bytes) n h by r =
    let gone : slice_get old.retired by ≡ Some true = ap (λ xs. slice_get xs by) (sym (retires_for_good others old new (Add p bytes) h)) ∙ r in
    shares_follow others old new (Add p bytes) h by
    ∙ ap (λ b. share_of by old.entries + cond b (new.tail - old.tail) 0) (lives old p by h.0.1 gone)
    ∙ ap (λ x. x + 0) (n by gone)
none_step others old new (Retire kept gone) n h by r =
    shares_follow others old new (Retire kept gone) h by
    ∙ ⊎_elim
    (λ (t : (gone == by) ≡ true). ap (λ b. cond b 0 (share_of by old.entries + cond (kept == by) (share_of gone old.entries) 0)) t)
    (λ (f : (gone == by) ≡ false).
    let was : slice_get old.retired by ≡ Some true = set_back old.retired gone by (eqb-false gone by f) (ap (λ xs. slice_get xs by) (sym (retires_for_good others old new (Retire kept gone) h)) ∙ r) in
    ap (λ b. cond b 0 (share_of by old.entries + cond (kept == by) (share_of gone old.entries) 0)) f
    ∙ ap (λ b. share_of by old.entries + cond b (share_of gone old.entries) 0) (lives old kept by h.0.1 was)
    ∙ ap (λ x. x + 0) (n by was))
    (cases_Bool (gone == by))
none_step others old new e n h by r = shares_follow others old new e h by ∙ n by (ap (λ xs. slice_get xs by) (sym (retires_for_good others old new e h)) ∙ r)

none_after : (old : World) (e : Event) (new : World) → HaveNoShare old → Step old e new → HaveNoShare new
none_after old (AtLog e) new n h = subst HaveNoShare (sym h.2) (none_step (old.sender.at ∷ []) old.log h.0 e n h.1)
none_after old (AtSender e) new n h = subst HaveNoShare (sym h.2) n
none_after old (AtImage which e) new n h = subst HaveNoShare (sym h.4) n
none_after old (Open which join window consumers) new n h = subst HaveNoShare (sym h.5) n

none_run : (events : List Event) (old new : World) → HaveNoShare old → Run old events new → HaveNoShare new
none_run [] old new n h = subst HaveNoShare (sym h) n
none_run (e ∷ es) old new n h = none_run es h.0 new (none_after old e h.0 n h.1) h.2

pub have_no_share : Always HaveNoShare
have_no_share w v events o run = none_run events w v (λ by r. ap (share_of by) o.entries) run
