-- Where units that follow each other end.
use Rattle.std.proofs.Common.{◌≡◌, ℕ, ◌+◌, ◌-◌, ◌*◌, ◌/◌, ◌%◌, ◌<◌, ◌≤◌, inl, inr, ⊎_elim, List, ◌∷◌, ap, ◌∙◌, subst, arith}
use Rattle.std.specs.List.{AllByRecursion}
use Rattle.std.proofs.lemmas.Bool.{cases_lt}
use Rattle.theory.specs.Placed.{Among, Placed, covered, end_of, frame_length}
use Rattle.theory.specs.Units.{HasUnit, IsContiguous}
use Rattle.theory.proofs.Lists.{all_at}
use Rattle.theory.proofs.Parted.{one_frame}
use Rattle.position.specs.declared.head.FrameHead.{FrameHead}
use Rattle.image_rule.specs.Frames.{HasStart}
use Rattle.image.specs.Handles.{InserterSeat, stored_by}
use Rattle.image.specs.Looking.{IsHeadOf}
use Rattle.image.proofs.Finds.{head_length}
use Rattle.image.specs.Runs.{AreBelow, IsRun}
use Rattle.image.specs.Rebuilding.{AreLaid}
use Rattle.image.proofs.Judged.{full_at}

-- it goes on by the frame that starts there
pub run_past : (ss : List Placed) (j q : ℕ) (s : Placed) → AreLaid ss → IsRun ss j q → Among s ss → s.at ≡ q → IsRun ss j (end_of s)
run_past ss j q s laid run a at =
    let whole : covered s ≡ 32 * (covered s / 32) = omega arith in let e = run.end in
    let full = full_at ss s laid a in
    record {
      units = run.units + covered s / 32;
      end = omega arith;
      all = λ k lt. ⊎_elim
          (λ (l : k < run.units). run.all k l)
          (λ (l : run.units ≤ k). record { frame = s; among = a; unit = k - run.units; inside = omega arith; here = omega arith })
          (cases_lt k run.units);
      edge = λ t b lt. ⊎_elim
          (λ (l : t.at < q). let f = run.edge t b l in omega arith)
          (λ (l : q ≤ t.at). let g = full_at ss t laid b in let same : s ≡ t = one_frame ss s t laid.apart a b (omega arith) lt in let d : end_of s ≡ end_of t = ap end_of same in omega arith)
          (cases_lt t.at q);
    }

-- it ends where none starts
pub run_stops : (ss : List Placed) (j q : ℕ) → IsRun ss j q → (HasStart ss q → ⊥) → IsContiguous ss j q
run_stops ss j q run none = record {
  units = run.units;
  end = run.end;
  all = run.all;
  next = λ u. (let here = u.here in let inside = u.inside in ⊎_elim
      (λ (l : u.frame.at < q). let e = run.edge u.frame u.among l in omega arith)
      (λ (l : q ≤ u.frame.at). none record { frame = u.frame; among = u.among; here = omega arith })
      (cases_lt u.frame.at q));
}

-- or at the mark
pub run_tops : (ss : List Placed) (j q mark : ℕ) → AreLaid ss → AreBelow ss mark → mark ≤ q → IsRun ss j q → IsContiguous ss j q
run_tops ss j q mark laid below le run = run_stops ss j q run (λ h. let e = all_at (λ (x : Placed). end_of x ≤ mark) h.frame ss below.ends h.among in let f = full_at ss h.frame laid h.among in let at = h.here in omega arith)

-- the contiguous end is the end of such a run, also where a frame more was stored above the beginning
pub run_more : (ss : List Placed) (s : Placed) (j q : ℕ) → AllByRecursion (λ x. x.at % 32 ≡ 0) ss → j % 32 ≡ 0 → IsContiguous ss j q → s.at % 32 ≡ 0 → j ≤ s.at → 0 < covered s → ((p : ℕ) → s.at ≤ p → p < end_of s → HasUnit ss p → ⊥) → IsRun (s ∷ ss) j q
run_more ss s j q units unit end whole from full free =
    let e = end.end in
    record {
      units = end.units;
      end = end.end;
      all = λ k lt. (let u = end.all k lt in record { frame = u.frame; among = inr u.among; unit = u.unit; inside = u.inside; here = u.here });
      edge = edge;
    }
  where
    edge : (t : Placed) → Among t (s ∷ ss) → t.at < q → end_of t ≤ q
    edge t (inl same) lt =
        let at : t.at ≡ s.at = ap (λ (x : Placed). x.at) same in let k : ℕ = (s.at - j) / 32 in let e : q ≡ j + 32 * end.units = end.end in
        let u = end.all k (omega arith) in absurd (free (j + 32 * k) (omega arith) (omega arith) u)
    edge t (inr a) lt =
        let at = all_at (λ (x : Placed). x.at % 32 ≡ 0) t ss units a in let e : q ≡ j + 32 * end.units = end.end in ⊎_elim
        (λ (l : q < end_of t). absurd (end.next record { frame = t; among = a; unit = (q - t.at) / 32; inside = omega arith; here = omega arith }))
        (λ (l : end_of t ≤ q). l)
        (cases_lt q (end_of t))

-- ---- the frame that starts somewhere

pub record IsFound (ss : List Placed) (p : ℕ) (head : FrameHead) : Type 0 where
  pub frame : Placed
  pub among : Among frame ss
  pub here : frame.at ≡ p
  pub size : head.frame_length ≡ frame_length frame.frame

pub found : (n m : InserterSeat) (p : ℕ) (head : FrameHead) → n ≡ m → HasStart (stored_by n) p → IsHeadOf n p head → IsFound (stored_by m) p head
found n m p head same h is = subst (λ (x : InserterSeat). IsFound (stored_by x) p head) same record {
  frame = h.frame;
  among = h.among;
  here = h.here;
  size = ap (λ (x : FrameHead). x.frame_length) (is h.frame h.among h.here) ∙ head_length p h.frame.frame;
}
