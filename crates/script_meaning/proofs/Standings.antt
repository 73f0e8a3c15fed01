-- What the sender of a played state may send again is still in its log.
use Rattle.std.proofs.Common.{◌≡◌, ◌⊎◌, ℕ, ◌+◌, ◌-◌, ◌*◌, ◌/◌, ◌<◌, ◌≤◌, inl, inr, ⊎_elim, List, [], ◌∷◌, ◌++◌, map, Bool, true, false, cond, filter, refl, sym, ap, ◌∙◌, subst, arith}
use Rattle.std.specs.List.{AllByRecursion}
use Rattle.std.specs.Prelude.{max}
use Rattle.std.proofs.lemmas.Bool.{cases_Bool, cond-false, cond-true, le-leb, leb-true}
use Rattle.std.proofs.lemmas.Grind.{flat_map-append}
use Rattle.theory.specs.Position.{Geometry, IsGeometry, span}
use Rattle.theory.specs.Placed.{AllAmong, Among, Chain, Frame, Placed, end_of, place_all}
use Rattle.theory.specs.Entry.{ArePadding, Entry, HaveFrames, committed}
use Rattle.theory.specs.Datagrams.{frames_of}
use Rattle.theory.specs.Resend.{first_due}
use Rattle.theory.proofs.Claims.{claim_bounded, covers_framed}
use Rattle.theory.proofs.Follow.{Chain-append, chain_le}
use Rattle.theory.proofs.Frames.{are_cut, placed_before}
use Rattle.theory.proofs.Single.{one_at}
use Rattle.theory.proofs.Lists.{all_append, all_at, all_from, all_front, among_cases, among_left}
use Rattle.model.specs.Headline.{AreMessageCuts, IsPublished}
use Rattle.model.specs.Sender.{Sender}
use Rattle.model.proofs.LogSteps.{entry_from}
use Rattle.sender.specs.Resending.Handler.{is_near}
use Rattle.sender.specs.Resending.Laws.{NearGiveRange}
use Rattle.sender.specs.Cycling.{Cycle, GivesNew}
use Rattle.script_meaning.specs.Answers.{behind_new, cycle_limit, end_from, named}
use Rattle.script_meaning.specs.ScriptState.{ScriptState, entries_of}
use Rattle.script_meaning.specs.Standing.{AlwaysAgain, AlwaysThere, IsPlayed}
use Rattle.script_meaning.proofs.PolledPrefixes.{sound_log}
use Rattle.script_meaning.proofs.Resends.{HasPassed, of_due}
use Rattle.script_meaning.proofs.SenderRuns.{all_kept, among_kept, chain_end, may_send, named_at}
use Rattle.script_meaning.proofs.Sound.{Laws, holds, law_of}

-- ---- a frame begins near the start of its entry

padding_at : (p : ℕ) (cuts : List ℕ) (fs : List Frame) (x : Placed) → ArePadding cuts fs → Among x (place_all p fs) → x.at ≡ p
padding_at p cuts [] x h a = absurd a
padding_at p (cut ∷ []) (f ∷ []) x h (inl e) = ap (λ s. s.at) e
padding_at p (cut ∷ []) (f ∷ []) x h (inr a) = absurd a
padding_at p [] (f ∷ fs) x h a = absurd h
padding_at p (cut ∷ []) (f ∷ g ∷ fs) x h a = absurd h
padding_at p (cut ∷ more ∷ cuts) (f ∷ fs) x h a = absurd h

near_start : (g : Geometry) (padding : Bool) (p : ℕ) (cuts : List ℕ) (fs : List Frame) (x : Placed) → IsGeometry g → HaveFrames padding cuts fs → AllByRecursion (λ cut. 0 < cut) cuts → AreMessageCuts padding g cuts → Among x (place_all p fs) → x.at < p + g.term_length / 7 + 64
near_start g true p cuts fs x legal have long m a = omega (arith, padding_at p cuts fs x have a)
near_start g false p cuts fs x legal have long m a =
    let before : x.at < p + span cuts = all_at (λ s. s.at < p + span cuts) x (place_all p fs) (placed_before p cuts fs (are_cut false cuts fs have) long) a in
    let bound = claim_bounded g m.0 legal m.1 in
    omega (arith, before, ap span m.2, covers_framed g m.0 legal, bound.0, bound.1)

-- what the log has forgotten lies further behind than can be asked for again
too_far : (g : Geometry) (past : List Entry) (at : ℕ) (x : Placed) → IsGeometry g → AllByRecursion (IsPublished g) past → AllByRecursion (λ e. e.start + g.term_length < at) past → Among x (committed past) → x.at + 3 * g.term_length / 4 < at
too_far g [] at x legal all far a = absurd a
too_far g (e ∷ es) at x legal all far a =
    ⊎_elim
    (λ (here : Among x (place_all e.start e.frames)).
    let near : x.at < e.start + g.term_length / 7 + 64 = near_start g e.padding e.start e.cuts e.frames x legal all.0.entry.frames all.0.entry.cuts all.0.message here in
    omega (arith, near, far.0, legal.term.least))
    (λ (later : Among x (committed es)). too_far g es at x legal all.1 far.1 later)
    (among_cases x (place_all e.start e.frames) (committed es) a)

-- ---- frames that lead on to the sender

record Leads (near : ℕ → Bool) (ss : List Placed) (at p : ℕ) : Type 0 where
  frame : Placed
  among : Among frame ss
  here : frame.at ≡ p
  passes : near p ≡ true
  below : end_of frame ≤ at
  on : (end_of frame ≡ at) ⊎ Among (end_of frame) (filter near (map (λ s. s.at) ss))

next_start : (near : ℕ → Bool) (j at : ℕ) (ss : List Placed) → Chain j at ss → near j ≡ true → (j ≡ at) ⊎ Among j (filter near (map (λ s. s.at) ss))
next_start near j at [] c n = inl (sym c)
next_start near j at (s ∷ ss) c n =
    let here : near s.at ≡ true = ap near c.0 ∙ n in
    inr (subst (Among j) (sym (cond-true (near s.at) (s.at ∷ filter near (map (λ s. s.at) ss)) (filter near (map (λ s. s.at) ss)) here)) (inl (sym c.0)))

behind : (near : ℕ → Bool) (s : Placed) (ss : List Placed) (q : ℕ) → Among q (filter near (map (λ (s : Placed). s.at) ss)) → Among q (filter near (map (λ (s : Placed). s.at) (s ∷ ss)))
behind near s ss q a = either (near s.at)
  where
    either : (b : Bool) → Among q (cond b (s.at ∷ filter near (map (λ (s : Placed). s.at) ss)) (filter near (map (λ (s : Placed). s.at) ss)))
    either true = inr a
    either false = a

leads_later : (near : ℕ → Bool) (s : Placed) (ss : List Placed) (at p : ℕ) → Leads near ss at p → Leads near (s ∷ ss) at p
leads_later near s ss at p l = record {
  frame = l.frame;
  among = inr l.among;
  here = l.here;
  passes = l.passes;
  below = l.below;
  on = ⊎_elim (λ (e : end_of l.frame ≡ at). inl e) (λ (a : Among (end_of l.frame) (filter near (map (λ (s : Placed). s.at) ss))). inr (behind near s ss (end_of l.frame) a)) l.on;
}

leads : (near : ℕ → Bool) → ((p q : ℕ) → p ≤ q → near p ≡ true → near q ≡ true) → (j at p : ℕ) (ss : List Placed) → Chain j at ss → Among p (filter near (map (λ s. s.at) ss)) → Leads near ss at p
leads near grows j at p [] c a = absurd a
leads near grows j at p (s ∷ ss) c a =
    let rest = filter near (map (λ (s : Placed). s.at) ss) in
    ⊎_elim
    (λ (t : near s.at ≡ true).
    let there : Among p (s.at ∷ rest) = subst (Among p) (cond-true (near s.at) (s.at ∷ rest) rest t) a in
    ⊎_elim
    (λ (e : p ≡ s.at). first t e)
    (λ (b : Among p rest). leads_later near s ss at p (leads near grows (end_of s) at p ss c.1 b))
    there)
    (λ (f : near s.at ≡ false). leads_later near s ss at p (leads near grows (end_of s) at p ss c.1 (subst (Among p) (cond-false (near s.at) (s.at ∷ rest) rest f) a)))
    (cases_Bool (near s.at))
  where
    first : near s.at ≡ true → p ≡ s.at → Leads near (s ∷ ss) at p
    first t e = record {
      frame = s;
      among = inl refl;
      here = sym e;
      passes = ap near e ∙ t;
      below = chain_le (end_of s) at ss c.1;
      on = ⊎_elim (λ (q : end_of s ≡ at). inl q) (λ (b : Among (end_of s) (filter near (map (λ s. s.at) ss))). inr (behind near s ss (end_of s) b)) (next_start near (end_of s) at ss c.1 (grows s.at (end_of s) (omega arith) t));
    }

near_grows : (g : Geometry) (at p q : ℕ) → p ≤ q → is_near g at p ≡ true → is_near g at q ≡ true
near_grows g at p q le n = le-leb at (q + 3 * g.term_length / 4) (omega (arith, le, leb-true at (p + 3 * g.term_length / 4) n))

-- ---- in a played state

kept_still : Laws → (s : ScriptState) → (p : IsPlayed s) → (x : Placed) → Among x (committed (entries_of s)) → s.sender.at ≤ x.at + 3 * s.log.identity.geometry.term_length / 4 → Among x (committed s.log.entries)
kept_still laws s p x a near =
    let i = p.identity in
    let term = s.log.identity.geometry.term_length in
    let h = sound_log laws i p.group p.start p.readers p.played s p.begins p.answered in
    let k = holds laws i p.group p.start p.readers 8 p.played s p.begins h in
    let cleaned : s.log.cleaned ≤ max s.log.start (s.sender.at - term) = (law_of laws.readable i p.group p.start p.readers 8 s p.begins h.runs).sender in
    let far : AllByRecursion (λ e. e.start + term < s.sender.at) s.past = all_from (λ e. e.start + term < s.sender.at) s.past (λ e b.
    let low : s.log.start ≤ e.start = entry_from term s.log.start s.log.tail (entries_of s) e k.tiles (among_left e s.past s.log.entries b) in
    let forgotten : e.start < s.log.cleaned = all_at (λ e. e.start < s.log.cleaned) e s.past h.forgotten b in
    omega (arith, cleaned, low, forgotten)) in
    ⊎_elim
    (λ (old : Among x (committed s.past)). absurd (omega (arith, near, too_far s.log.identity.geometry s.past s.sender.at x k.geometry (all_front (IsPublished s.log.identity.geometry) s.past s.log.entries k.published) far old)))
    (λ (new : Among x (committed s.log.entries)). new)
    (among_cases x (committed s.past) (committed s.log.entries) (subst (Among x) (flat_map-append (λ e. place_all e.start e.frames) s.past s.log.entries) a))

pub always_there : Laws → AlwaysThere
always_there laws s clock p q a =
    let i = p.identity in
    let g = s.log.identity.geometry in
    let h = sound_log laws i p.group p.start p.readers p.played s p.begins p.answered in
    let passed = law_of laws.passed i p.group p.start p.readers 8 s p.begins h.runs in
    let l = leads (is_near g s.sender.at) (near_grows g s.sender.at) s.log.start s.sender.at q s.sender.passed passed.chain a in
    let near : s.sender.at ≤ q + 3 * g.term_length / 4 = leb-true s.sender.at (q + 3 * g.term_length / 4) l.passes in
    record {
      frame = l.frame;
      among = kept_still laws s p l.frame (all_at (λ x. Among x (committed (entries_of s))) l.frame s.sender.passed passed.among l.among) (omega (arith, near, l.here));
      here = l.here;
      below = l.below;
      near = near;
      on = l.on;
    }

named_passed : (x : Sender) (due : Bool) → (named x due).passed ≡ x.passed
named_passed x true = refl
named_passed x false = refl

-- the sender behind new frames
passed_new : Laws → (s : ScriptState) (now : ℕ) (y : Cycle) → IsPlayed s → GivesNew s.log.identity.geometry (committed s.log.entries) s.sender.at (cycle_limit s now) y.fresh → HasPassed (committed (entries_of s)) (committed s.log.entries) s.log.start (behind_new s now y)
passed_new laws s now y p new =
    let i = p.identity in
    let h = sound_log laws i p.group p.start p.readers p.played s p.begins p.answered in
    let k = holds laws i p.group p.start p.readers 8 p.played s p.begins h in
    let passed = law_of laws.passed i p.group p.start p.readers 8 s p.begins h.runs in
    let may = may_send s.log.identity.geometry (committed s.log.entries) s.sender.at (cycle_limit s now) y.fresh new in
    let frames = frames_of y.fresh in
    let at = named_at s.sender y.setup in
    let before = named_passed s.sender y.setup in
    let on : Chain s.sender.at (end_from s.sender.at frames) frames = subst (λ to. Chain s.sender.at to frames) (chain_end s.sender.at may.to frames may.chain) may.chain in
    record {
      more = λ x a. among_kept s.past s.log.entries x a;
      chain = subst (λ ss. Chain s.log.start (end_from (named s.sender y.setup).at frames) (ss ++ frames)) (sym before) (subst (λ q. Chain s.log.start (end_from q frames) (s.sender.passed ++ frames)) (sym at) (Chain-append s.log.start s.sender.at (end_from s.sender.at frames) s.sender.passed frames passed.chain on));
      among = subst (λ ss. AllAmong (committed (entries_of s)) (ss ++ frames)) (sym before) (all_append (λ x. Among x (committed (entries_of s))) s.sender.passed frames passed.among (all_kept s.past s.log.entries frames may.among));
      one = λ a b x z e. one_at s.log.identity.geometry.term_length s.log.start s.log.tail (entries_of s) a b k.tiles k.entries x z e;
    }

pub always_again : Laws → NearGiveRange → AlwaysAgain
always_again laws range s now clock y p new again =
    let g = s.log.identity.geometry in
    let x = behind_new s now y in
    of_due range g (committed (entries_of s)) (committed s.log.entries) s.log.start x (first_due x.actions) y.again (passed_new laws s now y p new) again
