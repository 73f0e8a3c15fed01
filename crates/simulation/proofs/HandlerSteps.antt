-- What a sender's handler of negative acknowledgements knows, where the sender sends, is told and answers.
use Rattle.std.proofs.Common.{◌≡◌, ◌∙◌, ℕ, ◌≤◌, List, [], ◌∷◌, ◌++◌, map, refl, sym, ap, subst, arith, append-nil, append_assoc, inl, inr}
use Rattle.std.specs.Prelude.{ℤ}
use Rattle.std.specs.List.{filter}
use Rattle.std.proofs.lemmas.List.{map-append}
use Rattle.std.proofs.lemmas.List.Elements.{filter-append}
use Rattle.std.proofs.Math.Nat.{le-max_left, max-eq_right}
use Rattle.theory.specs.Placed.{Chain, Placed, end_of}
use Rattle.theory.specs.Position.{Geometry}
use Rattle.theory.specs.Resend.{NakAnswer, added, first_due, kept, nak_answer, nak_answer_by, nat_of}
use Rattle.theory.specs.Timing.{seen}
use Rattle.model.specs.Sender.{Sender}
use Rattle.model.specs.Sender as model
use Rattle.sender.specs.Resending.Handler.{Handler, after_due, after_nak, answered_first, is_near, nak_answer_of, starts_at}
use Rattle.sender.specs.Resending.Laws.{NearAreEnough, NearStayNear}
use Rattle.script_meaning.specs.Answers.{resent_on, sent_on}
use Rattle.sender.specs.Cycling.{TakesAll}
use Rattle.sender.specs.Sending.{all_noted}
use Rattle.theory.specs.Datagrams.{frames_of}
use Rattle.script_meaning.specs.Standing.{handler_of}

-- frames that follow each other do so up to each of them
pub front_chain : (at to : ℕ) (xs ys : List Placed) → Chain at to (xs ++ ys) → (q : ℕ) × Chain at q xs
front_chain at to [] ys h = (at, refl)
front_chain at to (x ∷ xs) ys h =
    let rest = front_chain (end_of x) to xs ys h.1 in
    (rest.0, (h.0, rest.1))

pub sent_chain : (at to : ℕ) (sent : List (List Placed)) (reads : List Placed) (Ended : Type 0) → TakesAll sent reads Ended → Chain at to reads → (q : ℕ) × Chain at q (frames_of sent)
sent_chain at to sent reads Ended (inl h) chain = (to, subst (Chain at to) h.0 chain)
sent_chain at to sent reads Ended (inr h) chain = front_chain at to (frames_of sent) (h.0 ∷ []) (subst (Chain at to) h.1 chain)

-- the starts of frames that were passed, and one more
near_more : NearStayNear → (g : Geometry) (at end p : ℕ) (passed : List Placed) (s : Placed) → at ≤ end → s.at ≡ p → filter (is_near g end) (filter (is_near g at) (map (λ (f : Placed). f.at) passed) ++ p ∷ []) ≡ filter (is_near g end) (map (λ (f : Placed). f.at) (passed ++ s ∷ []))
near_more law g at end p passed s low here =
    let starts = map (λ (f : Placed). f.at) passed in
    filter-append (is_near g end) (filter (is_near g at) starts) (p ∷ [])
    ∙ ap (λ xs. xs ++ filter (is_near g end) (p ∷ [])) (law g at end starts low)
    ∙ sym (filter-append (is_near g end) starts (p ∷ []))
    ∙ ap (λ q. filter (is_near g end) (starts ++ q ∷ [])) (sym here)
    ∙ ap (filter (is_near g end)) (sym (map-append (λ (f : Placed). f.at) passed (s ∷ [])))

-- a handler that noted the frames that went out knows what one knows that noted all that was passed
pub noted_is : NearStayNear → (g : Geometry) (start c q : ℕ) (x : Sender) (frames : List Placed) → Chain x.at q frames → all_noted (handler_of g start x c) frames ≡ handler_of g start (sent_on x frames) c
noted_is law g start c q x [] chain = ap (λ (ps : List Placed). handler_of g start (record x { passed = ps }) c) (sym (append-nil x.passed))
noted_is law g start c q x (s ∷ ss) chain =
    let low : x.at ≤ end_of s = omega (arith, chain.0) in
    let y = sent_on x (s ∷ []) in
    let one : record (handler_of g start x c) { at = end_of s; starts = filter (is_near g (end_of s)) (filter (is_near g x.at) (map (λ (f : Placed). f.at) x.passed) ++ s.at ∷ []) } ≡ handler_of g start y c =
    ap (λ (starts : List ℕ). record (handler_of g start x c) { at = end_of s; starts = starts }) (near_more law g x.at (end_of s) s.at x.passed s low refl) in
    ap (λ h. all_noted h ss) one
    ∙ noted_is law g start c q y ss chain.1
    ∙ ap (λ (ps : List Placed). handler_of g start (record (sent_on x (s ∷ ss)) { passed = ps }) c) (append_assoc x.passed (s ∷ []) ss)

pub later : (c d now : ℕ) → c ≤ d → c ≤ seen d now
later c d now low =
    let above : d ≤ seen d now = le-max_left d now in
    omega (arith, low, above)

-- a moment that was seen counts as the greater one
pub seen_is : (c now : ℕ) → c ≤ now → seen c now ≡ now
seen_is c now low = max-eq_right low

-- the action that was due is answered
pub due_is : (g : Geometry) (start c : ℕ) (x : Sender) (frames : List Placed) → c ≤ x.clock → after_due (handler_of g start x c) x.clock ≡ handler_of g start (resent_on x frames) x.clock
due_is g start c x frames low = ap (λ n. record (handler_of g start x n) { actions = answered_first n x.actions (first_due x.actions) }) (seen_is c x.clock low)

-- a negative acknowledgement is answered as by all frames that were passed
pub nak_is : NearAreEnough → (g : Geometry) (start c now : ℕ) (x : Sender) (p n : ℤ) → c ≤ now → nak_answer_of (handler_of g start x c) now p n ≡ nak_answer g start x.at x.passed (kept now x.actions) p n
nak_is law g start c now x p n low =
    ap (λ t. nak_answer_by g start x.at (starts_at (filter (is_near g x.at) (map (λ (f : Placed). f.at) x.passed))) (kept t x.actions) p n) (seen_is c now low)
    ∙ law g start x.at x.passed (kept now x.actions) p n

abbrev with_answer : Geometry → ℕ → Sender → ℤ → ℤ → ℕ → NakAnswer → Handler
with_answer g start x p n t a = record (handler_of g start x t) { actions = added a (nat_of p) (nat_of n) (kept t x.actions) }

-- and kept
pub missed_is : NearAreEnough → (g : Geometry) (start c now : ℕ) (x : Sender) (p n : ℤ) → c ≤ now → after_nak (handler_of g start x c) now p n ≡ handler_of g start (model.after_nak g start x now p n) now
missed_is law g start c now x p n low =
    ap (λ a. with_answer g start x p n (seen c now) a) (nak_is law g start c now x p n low)
    ∙ ap (λ t. with_answer g start x p n t (nak_answer g start x.at x.passed (kept now x.actions) p n)) (seen_is c now low)
