-- An image that opens.
use Rattle.std.proofs.Common.{◌≡◌, ℕ, ◌*◌, ◌/◌, ◌%◌, ◌<◌, ◌≤◌, List, [], Some, length, refl, sym, ap, ◌∙◌, subst, arith}
use Rattle.std.specs.Prelude.{replicate}
use Rattle.std.proofs.lemmas.List.{length-replicate}
use Rattle.theory.specs.Bytes.{Identity}
use Rattle.theory.specs.Image.{IsWindow}
use Rattle.theory.specs.Position.{IsGeometry}
use Rattle.theory.proofs.Lists.{all_replicate}
use Rattle.image.specs.Seen.{IsCount, IsJoin}
use Rattle.image_rule.specs.declared.view.Key.{Key}
use Rattle.image_rule.specs.declared.view.View.{View}
use Rattle.image_rule.specs.Frames.{placed_all}
use Rattle.region.specs.declared.access.RegionKey.{RegionKey}
use Rattle.region.specs.Pooled.{all_of}
use Rattle.image_rule.specs.Frames.{ring}
use Rattle.image_rule.specs.Rule.{IsKey, first_held, first_seat}
use Rattle.image_rule.specs.Steps.{Mine}
use Rattle.image_rule.proofs.Opening.{first_exact}
use Rattle.image.specs.declared.inserter.room.Room.{Room}
use Rattle.image.specs.Rests.{Rests}
use Rattle.image.proofs.Memories.{memory_first}
use Rattle.image.specs.Handles.{ImageWords, InserterSeat}
use Rattle.image.specs.Handles as words
use Rattle.image.specs.Rebuilding.{Inserting, IsRebuilding, inserting}
use Rattle.image.proofs.Leasts.{bytes_of, replicate_bytes}

abbrev pub key_of : Identity → ℕ → ℕ → Key
key_of identity join consumers = record { identity = identity; join = join / 32; consumers = consumers }

abbrev pub first : ImageWords → ℕ → ℕ → ℕ → Inserting
first image window join consumers = record { of = image.of; key = image.key; window = window; stored = []; high = join; floor = join; seen = replicate consumers join; looks = replicate consumers 0; undealt = consumers }

module _ (image : ImageWords) (n : InserterSeat) (identity : Identity) (join window consumers : ℕ) (key : image.key ≡ key_of identity join consumers) (fits : words.IsStoreOf image n) (whole : n.view ≡ first_seat image.key) (unit : join % 32 ≡ 0) where
  whole_view : n.view ≡ first_seat (key_of identity join consumers)
  whole_view = whole ∙ ap first_seat key

  aligned_join : 32 * (join / 32) ≡ join
  aligned_join = omega arith

  pub is_first : inserting n window join ≡ first image window join consumers
  is_first =
      let floor : 32 * n.view.held.floor ≡ join = ap (λ (v : View). 32 * v.held.floor) whole_view ∙ aligned_join in
      let seen : bytes_of n.view.seen ≡ replicate consumers join = ap (λ (v : View). bytes_of v.seen) whole_view ∙ replicate_bytes consumers (join / 32) join aligned_join in
      (λ j. record {
        of = fits.of j;
        key = fits.key j;
        window = window;
        stored = placed_all (whole_view j).held.got;
        high = join;
        floor = floor j;
        seen = seen j;
        looks = (whole_view j).looks;
        undealt = (whole_view j).undealt;
      })

  pub opens : IsGeometry identity.geometry → IsJoin identity.geometry join → IsWindow identity.geometry.term_length identity.geometry.mtu window → IsCount consumers → IsRebuilding (inserting n window join) join
  opens legal joined wide count =
      let same : inserting n window join ≡ record (first image window join consumers) { key = key_of identity join consumers } = is_first ∙ (λ j. record (first image window join consumers) { key = key j }) in
      subst (λ (i : Inserting). IsRebuilding i join) (sym same) record {
        geometry = legal;
        joined = record { unit = omega arith; within = (let w = joined.within in omega arith) };
        window = wide;
        fit = tt;
        apart = tt;
        from = tt;
        contiguous = record { units = 0; end = omega arith; all = λ k lt. absurd (omega arith); next = λ u. absurd u.among };
        floor_from = omega arith;
        floor = omega arith;
        mark = omega arith;
        high = joined.within;
        near = omega arith;
        count = length-replicate consumers join;
        some = count.0;
        behind = all_replicate (λ q. (32 * (join / 32) ≤ q) × (q ≤ join)) consumers join (omega arith, omega arith);
      }

-- the inserter's room of an image that holds nothing
pub first_rests : (key : Key) (region : RegionKey) (m : Mine) (room : Room) (heads : List ℕ) → IsKey key → 0 < key.consumers → m ≡ (first_seat key, []) → room.pool.identity ≡ region.identity → room.pool.free ≡ all_of (32 * ring key) → length heads ≡ ring key → Rests key region m (Some room) heads
first_rests key region m room heads is some first lies free long = subst (λ (x : Mine). Rests key region x (Some room) heads) (sym first) (record {
  inserting = record {
    is_key = is;
    some = some;
    inserts = refl;
    seen = length-replicate key.consumers key.join;
    looks = length-replicate key.consumers 0;
    exact = first_exact key is;
    idle = refl;
  };
  slots = refl;
  has = record { lies = lies; memory = memory_first key (first_held key) room.pool.free heads is refl refl free long; freed = refl };
})
