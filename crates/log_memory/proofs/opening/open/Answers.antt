use Rattle.theory.specs.Position.{Geometry}
use Rattle.std.proofs.Common.{rules, ◌≡◌, ℕ, ◌+◌, ◌*◌, ◌^◌, ◌<◌, List, [], length, ap, sym, ◌∙◌, subst}
use Rattle.std.specs.Vec.{vec_len}
use Rattle.region.specs.declared.access.WriteAccess.{WriteAccess}
use Rattle.region.specs.declared.region.Region.{Region}
use Rattle.region.specs.Identity as regions
use Rattle.region.specs.Identity.{start_address}
use Rattle.log_memory.specs.declared.view.Site.{Site}
use Rattle.log_memory.specs.Opening.{AreRooms, IsFirstWords}
use Rattle.log_memory.specs.Places.{units}
use Rattle.log_memory.specs.Rule.{ring, whole_seat}
use Rattle.log_memory.proofs.Kept.{steps_keep}
use Rattle.log_memory.proofs.Openings.{first_long, slots_begun, some_bytes, three_terms, words_begun}
use Rattle.log_memory.proofs.Places.{some_units}
use Rattle.log_memory.proofs.opening.open.Goals as goal

pub from_vec-region-requires : goal.from_vec-region-requires
from_vec-region-requires c =
    let n : c.units_of-units.result ≡ units c.args.key.now.identity.geometry = c.units_of-units.ensures.is ∙ ap units c.geometry-geometry.ensures.value in
    let long : vec_len c.in_ok-bytes.bytes ≡ 32 * c.units_of-units.result = search rules in
    subst (λ (m : ℕ). 0 < m) (sym (long ∙ ap (λ (u : ℕ). 32 * u) n)) (some_bytes c.args.key.now.identity.geometry c.requires.geometry)

pub new-opened-requires : goal.new-opened-requires
new-opened-requires c =
    let t : Site = record { key = c.args.key.now; region = c.key.result } in
    let n : c.units_of-units.result ≡ units c.args.key.now.identity.geometry = c.units_of-units.ensures.is ∙ ap units c.geometry-geometry.ensures.value in
    let whose : c.from_vec-region.result.2.identity ≡ c.key.result.identity = ap (λ (w : WriteAccess). w.identity) c.from_vec-region.ensures.access ∙ sym c.key.ensures in
    steps_keep.begins t c.as_slice.result.now c.in_ok-slots.slots.items
    (words_begun t c.requires.geometry c.requires.unit c.requires.below c.requires.count c.as_slice.result.now (subst (λ (x : ℕ × List ℕ). IsFirstWords c.args.key.now (208 + x.0) x.1) (λ j. (n j, sym c.as_slice.ensures.value j)) c.in_ok-words.ensures))
    (slots_begun t c.in_ok-slots.slots.items (subst (λ (x : regions.Identity × ℕ). AreRooms x.0 x.1 c.in_ok-slots.slots.items) (λ j. (whose j, n j)) c.in_ok-slots.ensures))

pub invariant_of-memory : goal.invariant_of-memory
invariant_of-memory c =
    let n : c.units_of-units.result ≡ units c.args.key.now.identity.geometry = c.units_of-units.ensures.is ∙ ap units c.geometry-geometry.ensures.value in
    let o = c.in-Ok.ensures.ok in
    let key : c.in-Ok.table.shared.key ≡ record { key = c.args.key.now; region = c.key.result } = o.5 in
    let units_is : c.units_of-units.result ≡ ring c.in-Ok.table.shared.key = n ∙ sym (ap ring key) in
    let long : length c.as_slice.result.now ≡ 208 + c.units_of-units.result = ap length c.as_slice.ensures.value ∙ first_long c.args.key.now (208 + c.units_of-units.result) c.in_ok-words.words.items c.in_ok-words.ensures in
    let region : c.from_vec-region.result.1.identity ≡ c.in-Ok-new.region.value.identity = ap (λ (r : Region). r.identity) (sym c.in-Ok-new.ensures.ok) in
    let power : 32 * 2 ^ c.shift_of.result ≡ c.args.key.now.identity.geometry.term_length = c.shift_of.ensures.power ∙ ap (λ (g : Geometry). g.term_length) c.geometry-geometry.ensures.value in record {
      lies = ap (λ (t : Site). t.region.identity) key ∙ c.key.ensures ∙ region;
      starts = c.from_vec-region.ensures.start ∙ ap start_address region;
      units_is = units_is;
      few = c.units_of-units.ensures.few;
      terms = n ∙ three_terms c.args.key.now.identity.geometry (2 ^ c.shift_of.result) power;
      shifts = c.shift_of.ensures.low;
      wide = o.0 ∙ long;
      shelves = o.1 ∙ c.in_ok-slots.ensures.long;
    }

pub returns : goal.returns
returns c =
    let n : c.units_of-units.result ≡ units c.args.key.now.identity.geometry = c.units_of-units.ensures.is ∙ ap units c.geometry-geometry.ensures.value in
    let o = c.in-Ok.ensures.ok in
    let key : c.in-Ok.table.shared.key ≡ record { key = c.args.key.now; region = c.key.result } = o.5 in
    let units_is : c.units_of-units.result ≡ ring c.in-Ok.table.shared.key = n ∙ sym (ap ring key) in
    let long : length c.as_slice.result.now ≡ 208 + c.units_of-units.result = ap length c.as_slice.ensures.value ∙ first_long c.args.key.now (208 + c.units_of-units.result) c.in_ok-words.words.items c.in_ok-words.ensures in record {
      site_is = ap (λ (t : Site). t.key) key;
      of = record { of = o.2; words = o.0 ∙ long ∙ ap (λ (u : ℕ). 208 + u) units_is; some = subst (λ (u : ℕ). 0 < u) (sym (ap ring key)) (some_units c.args.key.now.identity.geometry c.requires.geometry.term.least) };
      first = o.4 ∙ ap (λ (t : Site). (whole_seat t, [])) (sym key);
    }
