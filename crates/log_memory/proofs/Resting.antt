-- A step that changes neither what is claimed nor what is committed, and moves no memory, keeps the rule.
use Rattle.std.proofs.Common.{◌≡◌, ◌≢◌, ℕ, ◌+◌, ◌*◌, ◌/◌, ◌%◌, ◌<◌, ◌≤◌, inl, inr, ⊎_elim, List, [], length, set, sym, refl, ap, ◌∙◌, subst, arith}
use mathlib.Core.Option.{Option, some}
use lib.ListN.{get_elem?}
use Rattle.std.specs.Prelude.{slice_index}
use Rattle.theory.specs.Entry.{length_of}
use Rattle.theory.specs.Placed.{Among}
use Rattle.theory.specs.Position.{greatest_claim}
use Rattle.theory.specs.Refusal.{limit_in}
use Rattle.publication.specs.declared.pass.FrameWords.{FrameWords}
use Rattle.publication.specs.declared.pass.Pass.{Pass}
use Rattle.publication.specs.declared.pass.Reading.{Reading}
use Rattle.publication.specs.Steps.{Extent, extent_of}
use Rattle.atomic_table.proofs.Lists.{at_set}
use Rattle.log_rule.specs.Readings.{end_of}
use Rattle.log_rule.specs.Claims.Events.{IsLook, SameCommitted, committed_weight}
use Rattle.log_rule.specs.Claims.Rule.{weight}
use Rattle.log_rule.specs.Claims.Sums.{total}
use Rattle.log_rule.specs.Edges.{AreCommitted, IsAmong, begins_at, begins_below, claimed_sum, in_entry}
use Rattle.log_rule.specs.Table.{LogRuled}
use Rattle.region.specs.declared.access.Access.{Access}
use Rattle.log_memory.specs.declared.view.LogView.{LogView}
use Rattle.log_memory.specs.declared.view.Site.{Site}
use Rattle.log_memory.specs.Places.{head_place, slot_of}
use Rattle.log_memory.specs.Rule.{AreSmall, Board, IsBeyond, IsEdgeOf, IsFree, IsHeld, IsHome, IsOut, IsParked, IsWithReader, KnowsRoom, Lies, LogMemoryRuled, Rounds, passes_of, ring, shape, stream_state, tail_in, term}

-- ---- the same frames are committed

pub record SameFrames (ps ps' : List Pass) : Type 0 where
  pub there : (f : FrameWords) → IsAmong ps f → IsAmong ps' f
  pub back : (f : FrameWords) → IsAmong ps' f → IsAmong ps f

pub same_frames : (ps ps' : List Pass) → SameCommitted ps ps' → SameFrames ps ps'
same_frames ps ps' l = record {
  there = λ f among h. (let a = among h in let e = l h in up (h f) (total (committed_weight h) ps) (total (committed_weight h) ps') a (sym e));
  back = λ f among h. (let a = among h in let e = l h in up (h f) (total (committed_weight h) ps') (total (committed_weight h) ps) a e);
}
  where
    up : (x y z : ℕ) → x ≤ y → y ≡ z → x ≤ z
    up x y z le e = omega arith

module _ (t : Site) (ps ps' : List Pass) (same : SameFrames ps ps') where
  pub beyond_on : (gone p : ℕ) → IsBeyond t ps gone p → IsBeyond t ps' gone p
  beyond_on gone p a = record { passed = a.passed; back = λ f among near. a.back f (same.back f among) near }

  pub out_on : (freed out : ℕ) → IsOut ps freed out → IsOut ps' freed out
  out_on freed out a = record { frame = a.frame; among = same.there a.frame a.among; here = a.here; long = a.long }

  pub knows_on : (freed out : ℕ) (v : LogView) → KnowsRoom t ps freed out v → KnowsRoom t ps' freed out v
  knows_on freed out v a = record { freed_is = a.freed_is; out_is = a.out_is; cleaned = a.cleaned; seen = λ j there. beyond_on (freed + out) _ (a.seen j there) }

  pub held_on : (rounds : Rounds) (v : LogView) → IsHeld t ps rounds v → IsHeld t ps' rounds v
  held_on rounds v a = record { frame = a.frame; among = same.there a.frame a.among; here = a.here; round = a.round; book = a.book; reading = a.reading; mine = a.mine; number = a.number; low = a.low; near = a.near }

-- ---- and the same is claimed, by whomever

pub record IsStill (ps ps' : List Pass) : Type 0 where
  pub length : total (weight length_of) ps' ≡ total (weight length_of) ps
  pub claimed : (h : Extent → ℕ) → claimed_sum h ps' ≡ claimed_sum h ps
  pub committed : SameCommitted ps ps'

pub still : (ps ps' : List Pass) → IsLook ps ps' → IsStill ps ps'
still ps ps' l = record { length = l.claimed length_of; claimed = λ h. l.claimed (in_entry h); committed = l.committed }

module _ (t : Site) (ps ps' : List Pass) (l : IsStill ps ps') where
  pub tail_on : tail_in t.key ps' ≡ tail_in t.key ps
  tail_on = ap (λ (n : ℕ). t.key.start + n) l.length

  pub edge_on : (p : ℕ) → IsEdgeOf t.key ps p → IsEdgeOf t.key ps' p
  edge_on p = ⊎_elim (λ e. inl (e ∙ sym tail_on)) (λ pos. inr (let e = l.claimed (begins_at p) in more (claimed_sum (begins_at p) ps) (claimed_sum (begins_at p) ps') pos e))
    where
      more : (a c : ℕ) → 0 < a → c ≡ a → 0 < c
      more a c pos e = omega arith

  pub passed_on : (p : ℕ) → AreCommitted ps p → AreCommitted ps' p
  passed_on p same = l.claimed (begins_below p) ∙ same ∙ sym (l.committed (λ f. begins_below p (extent_of f)))

-- ---- room that is at home

pub parked_on : (t : Site) (s s' : Board) (v : LogView) (f : FrameWords) → ((p j : ℕ) (is : Access → Type 0) → p % 32 ≡ 0 → f.start ≤ p → p < end_of f → j < 8 → IsHome s (slot_of (ring t) p j) is → IsHome s' (slot_of (ring t) p j) is) → IsParked t s v f → IsParked t s' v f
parked_on t s s' v f on a = record {
  draft = a.draft;
  room = λ p unit lo hi. (let g = a.room p unit lo hi in record { room = on p 0 _ unit lo hi (omega arith) g.room; others = λ j lt. on p j _ unit lo hi lt (g.others j lt) });
}

-- where one seat's view changes
pub parked_set : (t : Site) (s s' : Board) (id : ℕ) (w : LogView) → ((f : FrameWords) → Among f w.parked → IsParked t s' w f) → ((i : ℕ) (x : LogView) (f : FrameWords) → i ≢ id → get_elem? s.views i ≡ some x → Among f x.parked → IsParked t s' x f)
    → (i : ℕ) (x : LogView) (f : FrameWords) → get_elem? (set s.views id w) i ≡ some x → Among f x.parked → IsParked t s' x f
parked_set t s s' id w own others i x f there among = ⊎_elim
    (λ e. subst (λ (y : LogView). IsParked t s' y f) e.1 (own f (subst (λ (y : LogView). Among f y.parked) (sym e.1) among)))
    (λ e. others i x f e.0 e.1 among)
    (at_set s.views id i w x there)

-- a seat with no such room
pub none_parked : (t : Site) (s : Board) (w : LogView) → w.parked ≡ [] → (f : FrameWords) → Among f w.parked → IsParked t s w f
none_parked t s w e f among = absurd (subst (Among f) e among)

-- ---- where slots stay, or move

-- what a step leaves: the words of units, where frames and room lie, where consumers stand, and what the keeper knows
pub record Moves (t : Site) (s : Board) (r : LogMemoryRuled t s) (words stream : List ℕ) (homes : List (Option Access)) (views : List LogView) : Type 0 where
  pub ruled : LogRuled t.key (stream_state stream views)
  pub look : IsStill (passes_of s.views) (passes_of views)
  pub long : length words ≡ length s.words
  pub small : AreSmall stream
  pub controls : (i : ℕ) → i < 208 → slice_index words i ≡ slice_index stream i
  pub heads : (i : ℕ) → 208 ≤ i → slice_index words i ≡ slice_index s.words i
  pub ahead : limit_in (slice_index words 0) + greatest_claim (shape t) * 8 < r.freed + 3 * term t
  pub shelves : length homes ≡ length s.homes
  pub lies : (f : FrameWords) → IsAmong (passes_of s.views) f → r.freed + r.out ≤ f.start → Lies t (record { words = words; homes = homes; views = views }) r.rounds f
  pub room : (p : ℕ) → p % 32 ≡ 0 → tail_in t.key (passes_of s.views) ≤ p → p < r.freed + 3 * term t → IsFree t (record { words = words; homes = homes; views = views }) p
  pub held : (i : ℕ) (v : LogView) → get_elem? views i ≡ some v → v.part.has ≡ 1 → IsHeld t (passes_of s.views) r.rounds v
  pub readers : (i : ℕ) (v : LogView) (x : Reading) → get_elem? views i ≡ some v → Among x v.view.pass.reading → x.number < 8 → IsBeyond t (passes_of s.views) (r.freed + r.out) x.position
  pub keeper : (i : ℕ) (v : LogView) → get_elem? views i ≡ some v → v.view.pass.keeping.right ≡ 1 → KnowsRoom t (passes_of s.views) r.freed r.out v
  pub parked : (i : ℕ) (v : LogView) (f : FrameWords) → get_elem? views i ≡ some v → Among f v.parked → IsParked t (record { words = words; homes = homes; views = views }) v f

pub moves : (t : Site) (s : Board) (r : LogMemoryRuled t s) (words stream : List ℕ) (homes : List (Option Access)) (views : List LogView) → Moves t s r words stream homes views → LogMemoryRuled t record { words = words; homes = homes; views = views }
moves t s r words stream homes views l =
    let ps = passes_of s.views in let ps' = passes_of views in let same = same_frames ps ps' l.look.committed in let m = r.memory in let w = r.words in record {
      stream = stream;
      freed = r.freed;
      out = r.out;
      rounds = r.rounds;
      ruled = l.ruled;
      words = record {
        long = l.long ∙ w.long;
        small = l.small;
        controls = l.controls;
        heads = λ f among from. l.heads (head_place (ring t) f.start) (let x : ℕ = f.start / 32 % ring t in omega arith) ∙ w.heads f (same.back f among) from;
        rest = λ p unit from to none. l.heads (head_place (ring t) p) (let x : ℕ = p / 32 % ring t in omega arith) ∙ w.rest p unit from to (λ f among. none f (same.there f among));
      };
      memory = record {
        shelves = l.shelves ∙ m.shelves;
        unit = m.unit;
        edge = edge_on t ps ps' l.look (r.freed + r.out) m.edge;
        passed = passed_on t ps ps' l.look (r.freed + r.out) m.passed;
        ahead = l.ahead;
        free = λ p unit from to. l.room p unit (subst (λ (x : ℕ). x ≤ p) (tail_on t ps ps' l.look) from) to;
        frames = λ f among from. l.lies f (same.back f among) from;
        taken = λ some'. out_on t ps ps' same r.freed r.out (m.taken some');
        held = λ i v at has. held_on t ps ps' same r.rounds v (l.held i v at has);
        readers = λ i v x at among low. beyond_on t ps ps' same (r.freed + r.out) x.position (l.readers i v x at among low);
        keeper = λ i v at one. knows_on t ps ps' same r.freed r.out v (l.keeper i v at one);
        parked = l.parked;
      };
    }

-- ---- no slot moves

home_on : (s : Board) (words : List ℕ) (views : List LogView) (k : ℕ) (is : Access → Type 0) → IsHome s k is → IsHome (record { words = words; homes = s.homes; views = views }) k is
home_on s words views k is a = record { access = a.access; there = a.there; so = a.so }

pub record Leaves (t : Site) (s : Board) (r : LogMemoryRuled t s) (words stream : List ℕ) (views : List LogView) : Type 0 where
  pub ruled : LogRuled t.key (stream_state stream views)
  pub look : IsStill (passes_of s.views) (passes_of views)
  pub long : length words ≡ length s.words
  pub small : AreSmall stream
  pub controls : (i : ℕ) → i < 208 → slice_index words i ≡ slice_index stream i
  pub heads : (i : ℕ) → 208 ≤ i → slice_index words i ≡ slice_index s.words i
  pub ahead : limit_in (slice_index words 0) + greatest_claim (shape t) * 8 < r.freed + 3 * term t
  pub with_reader : (p j : ℕ) → IsWithReader s p j → IsWithReader (record { words = words; homes = s.homes; views = views }) p j
  pub held : (i : ℕ) (v : LogView) → get_elem? views i ≡ some v → v.part.has ≡ 1 → IsHeld t (passes_of s.views) r.rounds v
  pub readers : (i : ℕ) (v : LogView) (x : Reading) → get_elem? views i ≡ some v → Among x v.view.pass.reading → x.number < 8 → IsBeyond t (passes_of s.views) (r.freed + r.out) x.position
  pub keeper : (i : ℕ) (v : LogView) → get_elem? views i ≡ some v → v.view.pass.keeping.right ≡ 1 → KnowsRoom t (passes_of s.views) r.freed r.out v
  pub parked : (i : ℕ) (v : LogView) (f : FrameWords) → get_elem? views i ≡ some v → Among f v.parked → IsParked t s v f

pub rests : (t : Site) (s : Board) (r : LogMemoryRuled t s) (words stream : List ℕ) (views : List LogView) → Leaves t s r words stream views → LogMemoryRuled t record { words = words; homes = s.homes; views = views }
rests t s r words stream views l = moves t s r words stream s.homes views record {
  ruled = l.ruled;
  look = l.look;
  long = l.long;
  small = l.small;
  controls = l.controls;
  heads = l.heads;
  ahead = l.ahead;
  shelves = refl;
  lies = λ f among from. (let a = r.memory.frames f among from in record {
    parts = λ j lt. ⊎_elim (λ h. inl (home_on s words views _ _ h)) (λ b. inr (l.with_reader f.start j b)) (a.parts j lt);
    inside = λ p j unit lo hi lt. home_on s words views _ _ (a.inside p j unit lo hi lt);
  });
  room = λ p unit from to. (let a = r.memory.free p unit from to in record { room = home_on s words views _ _ a.room; others = λ j lt. home_on s words views _ _ (a.others j lt) });
  held = l.held;
  readers = l.readers;
  keeper = l.keeper;
  parked = λ i v f at among. parked_on t s (record { words = words; homes = s.homes; views = views }) v f (λ p j is unit lo hi lt h. home_on s words views _ is h) (l.parked i v f at among);
}
