-- What the rule says of a table's state, by its parts.
use Rattle.std.proofs.Common.{◌≡◌, ℕ, suc, ◌+◌, ◌*◌, ◌<◌, ◌≤◌, Bool, cond, inl, inr, List, [], ◌∷◌, map, sym, refl, ap, ◌∙◌, subst, ⊎_elim, eq-eqb, arith}
use mathlib.Core.Option.{some}
use lib.ListN.{get_elem?}
use Rattle.std.specs.Prelude.{slice_index}
use Rattle.std.specs.List.{AllByRecursion}
use Rattle.atomic_table.specs.Table.{State}
use Rattle.theory.specs.Entry.{Entry, length_of}
use Rattle.theory.specs.Tiling.{Tiles, all_shares, share_of}
use Rattle.theory.specs.Placed.{Among}
use Rattle.theory.proofs.Lists.{all_at, all_behind, all_front, all_weaker}
use Rattle.publication.specs.declared.pass.FrameWords.{FrameWords}
use Rattle.publication.specs.declared.pass.Pass.{Pass}
use Rattle.publication.specs.declared.pass.Reading.{Reading}
use Rattle.log_rule.specs.Claims.Memory.{IsCommittedFrame, IsOpen, StandsInTable, tail_of}
use Rattle.log_rule.specs.Claims.Packs.{limit_place, slot}
use Rattle.log_rule.specs.Claims.Plays.{pass_in}
use Rattle.log_rule.specs.Claims.Rule.{Bounds, IsClaimEntry, armed_of, entries_of, first_of, shape_of, weight}
use Rattle.log_rule.specs.Claims.Sums.{total}
use Rattle.log_rule.specs.Claims.Terms.{claimed_to}
use Rattle.log_rule.specs.Says.{IsBegun, IsCommittedFor, IsSpelt, IsStanding, KnowsConsumer, RuleSays, tail_shown}
use Rattle.log_rule.specs.Shares.{owner_bytes}
use Rattle.log_rule.specs.Table.{LogRuled, now_at}
use Rattle.log_rule.specs.declared.rule.Key.{Key}
use Rattle.log_rule.specs.declared.claims.view.View.{View}
use Rattle.log_rule.specs.Kept.{IsReader, readers_of, reads_as}
use Rattle.log_rule.proofs.Claimed.Totals.{total_at}
use Rattle.log_rule.proofs.Consumers.{is_there}
use Rattle.log_rule.proofs.Known.{among_at, found}
use Rattle.log_rule.proofs.Claimed.Looks.{narrow}
use Rattle.log_rule.proofs.Claimed.Memories.{tail_is}
use Rattle.log_rule.proofs.Claimed.Shown.{greatest_is}
use Rattle.log_rule.proofs.Claimed.Totals.{extent_of}
use Rattle.log_rule.proofs.Edges.{edge_low}
use Rattle.log_rule.proofs.Owning.{one_claims}
use Rattle.log_rule.proofs.Sums.{all_parted}
use Rattle.log_rule.specs.Edges.{CommittedBy, IsAmong, IsPlaced, begins_at, claimed_sum, in_entry}
use Rattle.log_rule.proofs.Shares.{eight_shares, share_is}

-- ---- the shares

owners_low : (es : List Entry) → AllByRecursion IsClaimEntry es → AllByRecursion (λ e. e.owner < 8) es
owners_low [] a = tt
owners_low (e ∷ es) a = (a.0.entry.owner, owners_low es a.1)

-- the eight shares of all passes are all that was claimed
eight_of : (ps : List Pass) → ((i : ℕ) (v : Pass) → get_elem? ps i ≡ some v → AllByRecursion IsClaimEntry (entries_of v)) → total (weight (owner_bytes 0)) ps + total (weight (owner_bytes 1)) ps + total (weight (owner_bytes 2)) ps + total (weight (owner_bytes 3)) ps + total (weight (owner_bytes 4)) ps + total (weight (owner_bytes 5)) ps + total (weight (owner_bytes 6)) ps + total (weight (owner_bytes 7)) ps ≡ total (weight length_of) ps
eight_of [] each = refl
eight_of (v ∷ ps) each =
    let one = eight_shares (entries_of v) (owners_low (entries_of v) (each 0 v refl)) in let r = eight_of ps (λ i. each (suc i)) in
    sums (weight (owner_bytes 0) v) (weight (owner_bytes 1) v) (weight (owner_bytes 2) v) (weight (owner_bytes 3) v) (weight (owner_bytes 4) v) (weight (owner_bytes 5) v) (weight (owner_bytes 6) v) (weight (owner_bytes 7) v) (weight length_of v) (total (weight (owner_bytes 0)) ps) (total (weight (owner_bytes 1)) ps) (total (weight (owner_bytes 2)) ps) (total (weight (owner_bytes 3)) ps) (total (weight (owner_bytes 4)) ps) (total (weight (owner_bytes 5)) ps) (total (weight (owner_bytes 6)) ps) (total (weight (owner_bytes 7)) ps) (total (weight length_of) ps) one r
  where
    sums : (a b c d e f g h n a' b' c' d' e' f' g' h' n' : ℕ) → a + b + c + d + e + f + g + h ≡ n → a' + b' + c' + d' + e' + f' + g' + h' ≡ n' → (a + a') + (b + b') + (c + c') + (d + d') + (e + e') + (f + f') + (g + g') + (h + h') ≡ n + n'
    sums a b c d e f g h n a' b' c' d' e' f' g' h' n' x y = omega arith

-- ---- frames

spelt : (b : Bounds) (ws : List ℕ) (fs : List FrameWords) → AllByRecursion (IsCommittedFrame b.identity) fs → AllByRecursion (StandsInTable b ws) fs → AllByRecursion (IsSpelt b.identity b.cleaned ws) fs
spelt b ws [] d a = tt
spelt b ws (f ∷ fs) d a = (record { done = d.0; stands = a.0 }, spelt b ws fs d.1 a.1)

begun : (b : Bounds) (ws : List ℕ) (fs : List FrameWords) → AllByRecursion IsOpen fs → AllByRecursion (λ f. b.cleaned ≤ f.start) fs → AllByRecursion (StandsInTable b ws) fs → AllByRecursion (IsBegun b.identity b.cleaned ws) fs
begun b ws [] o k a = tt
begun b ws (f ∷ fs) o k a = (
  record {
    kept = k.0;
    first = λ some'. (let none : f.start + 8 * 0 ≡ f.start = omega arith in let low = k.0 in ap (λ (x : ℕ). slice_index ws (slot (shape_of b) x)) (sym none) ∙ a.0 0 some' (subst (λ (x : ℕ). b.cleaned ≤ x) (sym none) low) ∙ o.0);
  },
  begun b ws fs o.1 k.1 a.1,
)

-- ---- consumers

-- it has a place among the passes' consumers
among_place : (r : Reading) (rs : List Reading) → Among r rs → (k : ℕ) × (get_elem? rs k ≡ some r)
among_place r [] a = absurd a
among_place r (x ∷ xs) (inl e) = (0, ap some (sym e))
among_place r (x ∷ xs) (inr a) = let k = among_place r xs a in (suc k.0, k.1)

standing : (key : Key) (s : State (Unit {0}) View) (q : LogRuled key s) (i : ℕ) (v : Pass) (r : Reading) → get_elem? (map pass_in s.views) i ≡ some v → Among r v.reading → r.number < 8 → IsStanding key q.cleaned s.words (map pass_in s.views) r
standing key s q i v r at among low =
    let ws : List ℕ = s.words in let ps : List Pass = map pass_in s.views in let b : Bounds = now_at key (slice_index ws limit_place) q.cleaned in let c = q.ruled.claims in let t = c.terms in
    let tail : tail_shown key.identity.geometry ws ≡ claimed_to (shape_of b) t = greatest_is (shape_of b) (first_of b) t ws c.sound.geometry c.tailed (narrow b ws ps c) in
    let end : tail_of b ps ≡ tail_shown key.identity.geometry ws = tail_is b ws ps c ∙ sym tail in
    let k = among_place r v.reading among in let there = is_there b q.there ws ps q.kept i v k.0 r at k.1 low in
    let word = (all_at (IsReader ws ps) r v.reading (q.kept.each i v at).readings among).position low in
    let p : IsPlaced b ps r.position = subst (IsPlaced b ps) word (q.kept.placed r.number there) in
    let one : reads_as r.number r ≡ 1 = ap (λ (x : Bool). cond x 1 0) (eq-eqb r.number r.number refl) in
    let a = total_at (reads_as r.number) v.reading k.0 r k.1 in let d = total_at (readers_of r.number) ps i v at in let most = q.kept.single r.number low in record {
      word = word;
      unit = p.unit;
      from = p.from;
      below = subst (λ (z : ℕ). r.position ≤ z) end (edge_low b ws ps q.ruled r.position p.edge);
      edge = ⊎_elim (λ (e : r.position ≡ tail_of b ps). inl (e ∙ end)) (λ (some' : 0 < claimed_sum (begins_at r.position) ps). inr some') p.edge;
      passed = p.passed;
      readable = p.readable;
      single = exactly (reads_as r.number r) (readers_of r.number v) (total (readers_of r.number) ps) (slice_index q.there r.number) one a d most there;
    }
  where
    exactly : (x y t f : ℕ) → x ≡ 1 → x ≤ y → y ≤ t → t ≤ f → f ≡ 1 → t ≡ 1
    exactly x y t f one a d most there = omega arith

-- ---- all of it

pub rule_says : RuleSays
rule_says key s q =
    let ws : List ℕ = s.words in let ps : List Pass = map pass_in s.views in let b : Bounds = now_at key (slice_index ws limit_place) q.cleaned in let c = q.ruled.claims in let t = c.terms in
    let tail : tail_shown key.identity.geometry ws ≡ claimed_to (shape_of b) t = greatest_is (shape_of b) (first_of b) t ws c.sound.geometry c.tailed (narrow b ws ps c) in
    let end : tail_of b ps ≡ tail_shown key.identity.geometry ws = tail_is b ws ps c ∙ sym tail in
    let share : (owner : ℕ) → share_of owner c.log ≡ total (weight (owner_bytes owner)) ps = λ owner. sym (share_is owner c.log) ∙ sym (c.fair (owner_bytes owner)) in
    let all : all_shares c.log ≡ total length_of c.log = (λ j. share 0 j + share 1 j + share 2 j + share 3 j + share 4 j + share 5 j + share 6 j + share 7 j) ∙ eight_of ps (λ i v at. (c.each i v at).entries) ∙ c.fair length_of in record {
      log = c.log;
      cleaned = q.cleaned;
      tiles = subst (λ (z : ℕ). Tiles key.identity.geometry.term_length key.start z c.log) (sym tail) c.tiles;
      claimed = c.fair;
      framed = λ h. sym (c.fair (in_entry h)) ∙ all_parted b ws ps q.ruled.memory h;
      shares = share;
      whole = ap (λ (n : ℕ). key.start + n) all ∙ extent_of key.identity.geometry.term_length key.start (claimed_to (shape_of b) t) c.log c.tiles ∙ sym tail;
      numbers = one_claims b ws ps c q.numbered;
      room = subst (λ (z : ℕ). z + b.greatest * total armed_of ps ≤ b.limit + b.greatest * 8) (sym tail) c.room;
      ahead = q.ruled.memory.held;
      zeros = λ x unit above below. q.ruled.memory.zeros x unit (subst (λ (z : ℕ). z ≤ x) (sym end) above) below;
      frames = λ i v at. (let m = q.ruled.memory.each i v at in spelt b ws v.work.frames m.done (all_front (StandsInTable b ws) v.work.frames v.work.drafts m.stands));
      drafts = λ i v at. (let m = q.ruled.memory.each i v at in begun b ws v.work.drafts m.undone m.kept (all_behind (StandsInTable b ws) v.work.frames v.work.drafts m.stands));
      consumers = λ i v r at among low. standing key s q i v r at among low;
      known = λ i v r at among. all_weaker (IsAmong ps) (CommittedBy ps) (found ps) r.known (all_at (IsReader ws ps) r v.reading (q.kept.each i v at).readings among).known;
      keeper = λ i v at one j low. (let same : v.keeping.there ≡ q.there = (q.kept.each i v at).keeping.there one in
          subst (λ (t : List ℕ). KnowsConsumer t ws ps j) (sym same) record { most = q.kept.single j low; free = q.kept.free j low });
    }

-- what one of a pass's consumers knows is committed, whatever stands
pub known_committed : (v : Pass) (place : ℕ) (r : Reading) (f : FrameWords) → get_elem? v.reading place ≡ some r → Among f r.known → IsCommittedFor v f
known_committed v place r f is known key s i q at = all_at (CommittedBy (map pass_in s.views)) f r.known ((rule_says key s q).known i v r at (among_at v.reading place r is)) known
