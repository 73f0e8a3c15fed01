-- A table that opens, and its inserter's first look: they meet what the laws of an image's steps ask for, computed.
use Rattle.std.proofs.Common.{◌≡◌, ℕ, ◌+◌, ◌*◌, List, [], length, replicate, pos, refl, arith}
use Rattle.std.proofs.lemmas.List.{length-replicate}
use Rattle.atomic_table.specs.Table.{opening}
use Rattle.region.specs.declared.access.ReadAccess.{ReadAccess}
use Rattle.region.specs.declared.access.RegionKey.{RegionKey}
use Rattle.theory.specs.Image.{image_at}
use Rattle.image_rule.specs.declared.view.Key.{Key}
use Rattle.image_rule.specs.declared.view.Site.{Site}
use Rattle.image_rule.specs.Frames.{image_length, ring}
use Rattle.image_rule.specs.Law as laws
use Rattle.image_rule.specs.Rule.{Begun, ImageRuled, consumer_place, image_place, whole_seat}
use Rattle.image_rule.specs.Steps.{Sweeps, told}
use Rattle.image_rule.proofs.Opening.{key_is, opens, ring_is, zeros_at}
use Rattle.threads_meaning.specs.Images.{HasKind, IsImageOf, Look, Table}
use Rattle.threads_meaning.proofs.Imaged.{look_stays, opens_image, steps_have_kinds}

-- terms of 65,536 bytes, joined at the start, and two consumers
abbrev key : Key
key = record { identity = record { geometry = record { term_length = 65536; mtu = 1408; initial_term_id = pos 7 }; session = pos 1; stream = pos 2 }; join = 0; consumers = 2 }

abbrev words : List ℕ
words = replicate 320 0

-- 6,144 units, and so 96 words of each kind of bit
wide : length words ≡ image_place + image_length (ring key)
wide = (let e : 6144 ≡ ring key = ring_is key 6144 refl in let n : length words ≡ 320 = length-replicate {A = ℕ} 320 0 in omega arith)

begun : Begun key words
begun = record { long = wide; consumers = λ j lt. zeros_at 320 (consumer_place j); zeros = λ k lt. zeros_at 320 (image_place + k) }

module _ (region : RegionKey) (part : ReadAccess) where
  abbrev site : Site
  site = record { key = key; region = region }

  abbrev table : Table
  table = opening words (replicate (8 * ring key) part) (whole_seat site)

  ruled : ImageRuled site table
  ruled = opens site words (replicate (8 * ring key) part) (key_is key refl (omega arith) (omega arith) (omega arith)) begun (length-replicate (8 * ring key) part)

  -- it shows an image that has stored nothing, with both consumers at the start
  opened_row : IsImageOf site table (image_at 0 1408 2)
  opened_row = opens_image site table 1408 ruled begun refl

  -- the inserter's look at the second consumer is a step, behind which it shows the same
  look_row : laws.StepsAreEvents → HasKind site table Look 0 (consumer_place 1) (λ n. n) (told (Sweeps 1) (whole_seat site, []))
  look_row law = (steps_have_kinds law).load_position site table 0 (whole_seat site, []) 1 ruled (refl, (let z = zeros_at 320 (consumer_place 1) in omega arith)) refl (omega arith)

  shown_row : (law : laws.StepsAreEvents) → IsImageOf site (look_row law).after (image_at 0 1408 2)
  shown_row law = look_stays site table (look_row law).after (image_at 0 1408 2) opened_row (look_row law).steps
