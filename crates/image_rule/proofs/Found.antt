-- What a reader's calls tell, by its steps.
use Rattle.std.proofs.Common.{◌≡◌, ℕ, ◌<◌, ◌≤◌, inl, List, [], ◌∷◌, ◌++◌, length, sym, refl, ap, ◌∙◌, subst, arith}
use Rattle.image_rule.specs.declared.view.Frame.{Frame}
use Rattle.image_rule.specs.declared.view.View.{View}
use Rattle.image_rule.specs.Frames.{Among, end_of}
use Rattle.image_rule.specs.Reads.{IsFound, IsRead, first_of}
use Rattle.image_rule.specs.Steps.{FindsFrame, IsBefore}

pub first_among : (known : List Frame) → 0 < length known → Among (first_of known) known
first_among [] some' = absurd (omega arith)
first_among (f ∷ fs) some' = inl refl

-- a frame that was found is the first that the reader knows
pub found_now : (v w : View) → v.reading.reads ≡ 1 → FindsFrame v w → IsFound w
found_now v w one f = subst IsFound (sym f.after) record { reads = one; some = omega arith; here = f.here; low = f.low; says = f.says }

pub is_before : (w : View) (end : ℕ) → w.reading.reads ≡ 1 → IsRead w end → IsBefore (first_of w.reading.known) w
is_before w end one r = record { reads = one; known = first_among w.reading.known r.some; here = r.here }

-- what a reader has read stays, where it learns of more frames
pub read_on : (v w : View) (end : ℕ) (more : List Frame) → w.reading.known ≡ v.reading.known ++ more → w.reading.unit ≡ v.reading.unit → IsRead v end → IsRead w end
read_on v w end more known at r =
    let same : first_of w.reading.known ≡ first_of v.reading.known = ap first_of known ∙ first_on v.reading.known more r.some in record {
      some = (let e = ap length known in let l = longer v.reading.known more in let s = r.some in omega arith);
      here = ap (λ (f : Frame). f.unit) same ∙ r.here ∙ sym at;
      ends = r.ends ∙ ap end_of (sym same);
      low = r.low;
    }
  where
    first_on : (xs ys : List Frame) → 0 < length xs → first_of (xs ++ ys) ≡ first_of xs
    first_on [] ys lt = absurd (omega arith)
    first_on (x ∷ xs) ys lt = refl

    longer : (xs ys : List Frame) → length xs ≤ length (xs ++ ys)
    longer [] ys = omega arith
    longer (x ∷ xs) ys = let l = longer xs ys in omega arith
