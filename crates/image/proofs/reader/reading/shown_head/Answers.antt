use Rattle.std.proofs.Common.{◌≡◌, ◌∙◌, ◌*◌, ℕ, zero, suc, List, [], ◌∷◌, cond, refl, length, take, ap, sym, arith, length-take}
use Rattle.std.specs.Prelude.{nat_eq, slice_index}
use Rattle.image_rule.specs.declared.view.Frame.{Frame}
use Rattle.image_rule.specs.Frames.{Says}
use Rattle.image.proofs.Finds.{head_here, some_units}
use Rattle.std.proofs.Math.Dec.{eqb-suc-zero}
use Rattle.std.specs.Int.{from_le_bytes, w32}
use Rattle.position.specs.declared.head.FrameKind.TheVariants as kinds
use Rattle.image.proofs.reader.reading.shown_head.Goals as goal
use Rattle.image.proofs.reader.reading.shown_head.Goals.{then-bytes-eq0, else-bytes-eq0}

-- as many bytes as it looks at
eight : (f : Frame) (bytes items : List ℕ) → Says f → length items ≡ 32 * f.units → bytes ≡ take 8 items → length bytes ≡ 8
eight f bytes items says long is = let some = some_units f says in ap length is ∙ omega (arith, some, long, length-take 8 items)

pub bounds-bytes-0 : goal.bounds-bytes-0
bounds-bytes-0 g c = let e = eight g.N.Picked.frame c.bytes-bytes.result.now c.args.part.now.items c.requires.says.0 c.requires.part.long c.bytes-bytes.ensures in omega (arith, e)

pub bounds-bytes-1 : goal.bounds-bytes-1
bounds-bytes-1 g c = let e = eight g.N.Picked.frame c.bytes-bytes.result.now c.args.part.now.items c.requires.says.0 c.requires.part.long c.bytes-bytes.ensures in omega (arith, e)

pub bounds-bytes-2 : goal.bounds-bytes-2
bounds-bytes-2 g c = let e = eight g.N.Picked.frame c.bytes-bytes.result.now c.args.part.now.items c.requires.says.0 c.requires.part.long c.bytes-bytes.ensures in omega (arith, e)

pub bounds-bytes-3 : goal.bounds-bytes-3
bounds-bytes-3 g c = let e = eight g.N.Picked.frame c.bytes-bytes.result.now c.args.part.now.items c.requires.says.0 c.requires.part.long c.bytes-bytes.ensures in omega (arith, e)

pub bounds-bytes-6 : goal.bounds-bytes-6
bounds-bytes-6 g c = let e = eight g.N.Picked.frame c.bytes-bytes.result.now c.args.part.now.items c.requires.says.0 c.requires.part.long c.bytes-bytes.ensures in omega (arith, e)

pub bounds-bytes-5 : goal.bounds-bytes-5
bounds-bytes-5 g c = let e = eight g.N.Picked.frame c.bytes-bytes.result.now c.args.part.now.items c.requires.says.0 c.requires.part.long c.bytes-bytes.ensures in omega (arith, e)

four : (bytes : List ℕ) → length bytes ≡ 8 → slice_index bytes 0 ∷ slice_index bytes 1 ∷ slice_index bytes 2 ∷ slice_index bytes 3 ∷ [] ≡ take 4 bytes
four [] e = absurd (cc)
four (a ∷ []) e = absurd (omega arith)
four (a ∷ b ∷ []) e = absurd (omega arith)
four (a ∷ b ∷ c ∷ []) e = absurd (omega arith)
four (a ∷ b ∷ c ∷ d ∷ rest) e = refl

pads : (x : ℕ) → x ≡ 0 → kinds.Pad ≡ cond (nat_eq x 0) kinds.Pad kinds.Data
pads zero e = refl
pads (suc n) e = absurd (omega arith)

datas : (x : ℕ) → (x ≡ 0 → ⊥) → kinds.Data ≡ cond (nat_eq x 0) kinds.Pad kinds.Data
datas zero none = absurd (none refl)
datas (suc n) none = ap (λ b. cond b kinds.Pad kinds.Data) (sym (eqb-suc-zero n))

pub returns : goal.returns
returns g c =
    let e = eight g.N.Picked.frame c.bytes-bytes.result.now c.args.part.now.items c.requires.says.0 c.requires.part.long c.bytes-bytes.ensures in
    let bytes = c.bytes-bytes.result.now in
    let kind : c.if-bytes-eq0.result ≡ cond (nat_eq (slice_index bytes 6) 0) kinds.Pad kinds.Data = elim c.if-bytes-eq0.branch [ then-bytes-eq0 w ↦ w.result-is ∙ pads (slice_index bytes 6) w.if-bytes-eq0.true | else-bytes-eq0 w ↦ w.result-is ∙ datas (slice_index bytes 6) w.if-bytes-eq0.false ] in
    let size : c.from_le_bytes.result ≡ from_le_bytes w32 (take 4 bytes) = c.from_le_bytes.ensures ∙ ap (from_le_bytes w32) (four bytes e) in
    (λ j. record { start = 32 * c.args.unit; kind = kind j; flags = slice_index bytes 5; frame_length = size j })
    ∙ head_here g.N.Picked.frame (32 * c.args.unit) c.args.part.now.items bytes c.requires.says.0 c.requires.part.spells c.bytes-bytes.ensures
