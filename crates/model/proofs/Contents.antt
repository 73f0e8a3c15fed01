-- A unit has one content.
use Rattle.std.proofs.Common.{◌≡◌, ℕ, ◌+◌, ◌*◌, ◌<◌, List, map, refl, ap, ◌∙◌, take, drop, arith}
use Rattle.theory.specs.Placed.{Placed, covered}
use Rattle.theory.specs.Bytes.{Identity, bytes_of}
use Rattle.theory.specs.Units.{HasUnit}
use Rattle.theory.specs.Insert.{AreApart, head_of}
use Rattle.model.specs.GapLaws.{HasOneContent}
use Rattle.theory.proofs.Parted.{one_frame}

abbrev content_of : Identity → Placed → ℕ → List ℕ
content_of i s unit = take 32 (drop (32 * unit) (bytes_of i s))

one_unit : (i : Identity) (frames : List Placed) (p : ℕ) → AreApart (map head_of frames) → (u v : HasUnit frames p) → content_of i v.frame v.unit ≡ content_of i u.frame u.unit
one_unit i frames p apart u v =
    let here : p ≡ u.frame.at + 32 * u.unit = u.here in
    let there : p ≡ v.frame.at + 32 * v.unit = v.here in
    let inside : 32 * u.unit < covered u.frame = u.inside in
    let within : 32 * v.unit < covered v.frame = v.inside in
    let same : v.frame ≡ u.frame = one_frame frames v.frame u.frame apart v.among u.among (omega arith) (omega arith) in
    let starts : v.frame.at ≡ u.frame.at = ap (λ s. s.at) same in
    let unit : v.unit ≡ u.unit = omega arith in
    ap (λ s. content_of i s v.unit) same ∙ ap (content_of i u.frame) unit

pub has_one_content : HasOneContent
has_one_content i frames p apart u = (content_of i u.frame u.unit, (u, refl), λ other h. h.1 ∙ one_unit i frames p apart u h.0)
