-- What the lines of a script say of a reader: since when it is there, and which frames it showed since.
use Rattle.std.proofs.Common.{◌≡◌, ◌∙◌, ℕ, zero, suc, ◌<◌, ◌≤◌, cond, List, [], ◌∷◌, ◌++◌, Option, None, Some, inl, inr, refl, sym, ap, arith, append-nil, append_assoc}
use Rattle.std.specs.Prelude.{nat_lt}
use Rattle.std.proofs.lemmas.Bool.{cond-true, lt-ltb}
use Rattle.theory.specs.Placed.{Frame}
use Rattle.script.specs.Meaning as commands
use Rattle.script.specs.Meaning.{CommandContent}
use Rattle.script_meaning.specs.LineContents.{LineContent}
use Rattle.script_meaning.specs.Published.{HasBegun, IsThere, Played, read, read_by, turned_by, turns}

abbrev pub and_line : List Played → CommandContent → List LineContent → List Played
and_line played command lines = played ++ record { command = command; lines = lines } ∷ []

-- a reader that is there: where it joined, and the frames that its lines showed since
pub record Seen : Type 0 where
  pub join : ℕ
  pub frames : List Frame

abbrev pub showing : Option Seen → List Frame → Option Seen
showing None frames = None
showing (Some w) frames = Some (record w { frames = w.frames ++ frames })

abbrev pub begun : Option ℕ → Option Seen
begun None = None
begun (Some j) = Some (record { join = j; frames = [] })

-- it joined and left
abbrev pub turning : Option Seen → List (Option ℕ) → Option Seen
turning w [] = w
turning w (turn ∷ rest) = turning (begun turn) rest

abbrev pub seen_by : ℕ → Option Seen → CommandContent → List LineContent → Option Seen
seen_by r w command lines = showing (turning w (turned_by r command lines)) (read_by r command lines)

abbrev pub seen_from : ℕ → Option Seen → List Played → Option Seen
seen_from r w [] = w
seen_from r w (p ∷ ps) = seen_from r (seen_by r w p.command p.lines) ps

-- one of the log's readers is there from the start
abbrev pub seen_first : ℕ → ℕ → ℕ → Option Seen
seen_first start readers zero = None
seen_first start readers (suc k) = cond (nat_lt k readers) (Some (record { join = start; frames = [] })) None

abbrev pub seen : ℕ → ℕ → ℕ → List Played → Option Seen
seen start readers r played = seen_from r (seen_first start readers r) played

behind : (r : ℕ) (w : Option Seen) (ps qs : List Played) → seen_from r w (ps ++ qs) ≡ seen_from r (seen_from r w ps) qs
behind r w [] qs = refl
behind r w (p ∷ ps) qs = behind r (seen_by r w p.command p.lines) ps qs

pub seen_more : (start readers r : ℕ) (played : List Played) (command : CommandContent) (lines : List LineContent) → seen start readers r (and_line played command lines) ≡ seen_by r (seen start readers r played) command lines
seen_more start readers r played command lines = behind r (seen_first start readers r) played (record { command = command; lines = lines } ∷ [])

nothing_shown : (w : Option Seen) → showing w [] ≡ w
nothing_shown None = refl
nothing_shown (Some w) = ap (λ (fs : List Frame). Some (record w { frames = fs })) (append-nil w.frames)

-- a line that says nothing of it
quiet_line : (r : ℕ) (w : Option Seen) (command : CommandContent) (lines : List LineContent) → read_by r command lines ≡ [] → turned_by r command lines ≡ [] → seen_by r w command lines ≡ w
quiet_line r w command lines reads turns = (λ j. showing (turning w (turns j)) (reads j)) ∙ nothing_shown w

pub seen_quiet : (start readers r : ℕ) (played : List Played) (command : CommandContent) (lines : List LineContent) → read_by r command lines ≡ [] → turned_by r command lines ≡ [] → seen start readers r (and_line played command lines) ≡ seen start readers r played
seen_quiet start readers r played command lines reads turns = seen_more start readers r played command lines ∙ quiet_line r (seen start readers r played) command lines reads turns

-- ---- who is there by the lines

none_of : {A : Type 0} (xs ys : List A) → xs ++ ys ≡ [] → (xs ≡ []) × (ys ≡ [])
none_of [] ys e = (refl, e)
none_of (x ∷ xs) ys e = absurd (cc)

stays_on : (r : ℕ) (w : Seen) (ps : List Played) → turns r ps ≡ [] → seen_from r (Some w) ps ≡ Some (record w { frames = w.frames ++ read r ps })
stays_on r w [] e = ap (λ (fs : List Frame). Some (record w { frames = fs })) (sym (append-nil w.frames))
stays_on r w (p ∷ ps) e =
    let none = none_of (turned_by r p.command p.lines) (turns r ps) e in
    let next : Seen = record w { frames = w.frames ++ read_by r p.command p.lines } in
    ap (λ (ts : List (Option ℕ)). seen_from r (showing (turning (Some w) ts) (read_by r p.command p.lines)) ps) none.0
    ∙ stays_on r next ps none.1
    ∙ ap (λ (fs : List Frame). Some (record w { frames = fs })) (append_assoc w.frames (read_by r p.command p.lines) (read r ps))

-- where a line says that it joined it shows no frame
joining : (r j : ℕ) (command : CommandContent) (lines : List LineContent) → turned_by r command lines ≡ Some j ∷ [] → read_by r command lines ≡ []
joining r j (commands.Group size) lines e = refl
joining r j commands.Connect lines e = refl
joining r j commands.Disconnect lines e = refl
joining r j commands.Close lines e = refl
joining r j commands.Limit lines e = refl
joining r j (commands.Offer by message) lines e = refl
joining r j (commands.OfferSize by size) lines e = refl
joining r j (commands.Claim by size) lines e = refl
joining r j (commands.Commit by) lines e = refl
joining r j (commands.Abort by) lines e = refl
joining r j (commands.Read n) lines e = absurd (cc)
joining r j (commands.Join n) lines e = refl
joining r j (commands.Leave n) lines e = refl
joining r j (commands.Send now) lines e = refl
joining r j (commands.Deliver k i now) lines e = refl
joining r j (commands.Raw i now bytes) lines e = refl
joining r j (commands.Tick i now) lines e = refl
joining r j (commands.Reply k now) lines e = refl
joining r j (commands.RawBack now bytes) lines e = refl
joining r j (commands.Poll i) lines e = refl
joining r j (commands.Image i) lines e = refl

first_there : (start readers r : ℕ) → 0 < r → r ≤ readers → seen_first start readers r ≡ Some (record { join = start; frames = [] })
first_there start readers zero some low = absurd (omega (arith, some))
first_there start readers (suc k) some low = cond-true (nat_lt k readers) (Some (record { join = start; frames = [] })) None (lt-ltb k readers (omega (arith, low)))

pub seen_since : (start readers r j : ℕ) (since played : List Played) → IsThere start readers r j since played → seen start readers r played ≡ Some (record { join = j; frames = read r since })
seen_since start readers r j since played h = from h.begun
  where
    from : HasBegun start readers r j since played → seen start readers r played ≡ Some (record { join = j; frames = read r since })
    from (inl first) =
        ap (λ (w : Option Seen). seen_from r w played) (first_there start readers r first.0 first.1 ∙ ap (λ (p : ℕ). Some (record { join = p; frames = [] })) (sym first.2))
        ∙ ap (λ (ps : List Played). seen_from r (Some (record { join = j; frames = [] })) ps) (sym first.3)
        ∙ stays_on r (record { join = j; frames = [] }) since h.stays
    from (inr (before, p, turn, is)) =
        let w = seen start readers r before in
        ap (seen_from r (seen_first start readers r)) is ∙ behind r (seen_first start readers r) before (p ∷ since)
        ∙ ap (λ (x : Option Seen). seen_from r x since) ((λ i. showing (turning w (turn i)) (joining r j p.command p.lines turn i)))
        ∙ stays_on r (record { join = j; frames = [] }) since h.stays
