-- What an addition gave, by the word before it.
use Rattle.std.proofs.Common.{◌≡◌, ℕ, suc, ◌+◌, ◌-◌, ◌*◌, ◌%◌, ◌<◌, ◌≤◌, ⊎_elim, List, [], ◌∷◌, ◌++◌, append-nil, sym, refl, ap, ◌∙◌, subst, arith}
use Rattle.std.proofs.lemmas.Bool.{cases_lt}
use Rattle.std.proofs.Math.Nat.{mul-le-mul_right}
use Rattle.theory.specs.Position.{Geometry, IsGeometry, framed_length, max_position}
use Rattle.theory.specs.Placed.{Pad}
use Rattle.theory.specs.Words.{offset_in}
use Rattle.theory.proofs.Claims.{span_is}
use Rattle.theory.proofs.Cuts.{long_cuts}
use Rattle.publication.specs.declared.pass.FrameWords.{FrameWords}
use Rattle.publication.specs.declared.pass.Pass.{Pass}
use Rattle.publication.specs.declared.refusal.Refusal.{Refusal}
use Rattle.publication.specs.declared.step.WordStep.{WordStep}
use Rattle.publication.specs.declared.step.WordStep.TheVariants as steps
use Rattle.publication.specs.Steps.{Adds, Keeps, addition, count_in, disarmed, geometry_of, message_at, noted, opened, padding_at, seeing, start_in, term_of, with_full, with_work}
use Rattle.publication.specs.Frames.{frame_at}
use Rattle.publication.specs.Orders.{EndBelow}
use Rattle.publication.specs.Claims.{HasBlank, Takes, TurnsFrom, padded}
use Rattle.publication.specs.Looks.{EndsTerm, Granted, Pads, ToPad, Tripping}
use Rattle.publication.proofs.Refusing.{keeps}

-- a pass that is another but for what was seen
pub keeps_by : (p e w : Pass) → w ≡ e → e ≡ seeing p e → Keeps p w
keeps_by p e w is same = subst (λ (u : Pass). Keeps p u) (sym is) same

-- a term's bytes lie in the stream
pub in_stream : (count term offset covered : ℕ) → count < 2147483648 → offset + covered ≤ term → count * term + offset + covered ≤ term * 2147483648
in_stream count term offset covered small inside =
    let most : (count + 1) * term ≤ 2147483648 * term = mul-le-mul_right term (omega (arith, small)) in
    let one : (count + 1) * term ≡ count * term + term = omega arith in
    let turned : 2147483648 * term ≡ term * 2147483648 = omega arith in
    omega (arith, most, one, turned, inside)

-- a message covers some bytes, so where it fits its term it begins below the end
some_bytes : (g : Geometry) (size : ℕ) → IsGeometry g → 0 < framed_length g size
some_bytes g size is = subst (λ (n : ℕ). 0 < n) (span_is g is.mtu.unit is.mtu.least size) (long_cuts g size (let least = is.mtu.least in omega arith))

before_end : (offset covered term : ℕ) → 0 < covered → offset + covered ≤ term → offset < term
before_end offset covered term some inside = omega (arith, some, inside)

module _ (p w : Pass) (size word : ℕ) (told : Adds p size word w) where
  -- ---- it fitted its term

  pub granted : (count start : ℕ) → IsGeometry (geometry_of p) → p.seen.term ≡ count → offset_in word + framed_length (geometry_of p) size ≤ term_of p → start ≡ start_in (geometry_of p) word → Granted p count size start w
  granted count start legal at inside from =
      let e : w ≡ noted (addition p size word) (opened p (message_at p word size)) = told.fits inside in
      record {
        word = word;
        call = ap (λ (u : Pass). u.call) e ∙ ap (λ (c : ℕ). p.call ++ steps.Addition (c % 3) (framed_length (geometry_of p) size) word ∷ []) at;
        term = told.term;
        inside = inside;
        from = from;
        in_stream = subst (λ (n : ℕ). n + framed_length (geometry_of p) size ≤ max_position (geometry_of p)) (sym from) (in_stream (count_in (geometry_of p) word) (term_of p) (offset_in word) (framed_length (geometry_of p) size) told.term.small inside);
        behind = subst (λ (n : ℕ). EndBelow n p.right.claims) (sym from) (told.behind (before_end (offset_in word) (framed_length (geometry_of p) size) (term_of p) (some_bytes (geometry_of p) size legal) inside));
        after = keeps_by (opened p (message_at p word size)) (noted (addition p size word) (opened p (message_at p word size))) w e refl;
        idle = ap (λ (u : Pass). u.right.armed) e;
      }

  -- ---- it passed its end

  module _ (over : term_of p < offset_in word + framed_length (geometry_of p) size) where
    abbrev below_is : Pass
    below_is = noted (addition p size word) (with_full (opened p (padding_at p word)) (count_in (geometry_of p) word))

    abbrev above_is : Pass
    above_is = noted (addition p size word) (with_full (disarmed p) (count_in (geometry_of p) word))

    -- what is known of both
    both : (A : Pass → Type 0) → A below_is → A above_is → A w
    both A below above =
        ⊎_elim
        (λ (l : offset_in word < term_of p). subst A (sym (told.trips l over)) below)
        (λ (l : term_of p ≤ offset_in word). subst A (sym (told.over l)) above)
        (cases_lt (offset_in word) (term_of p))

    pub tripped_geometry : w.identity ≡ p.identity
    tripped_geometry = both (λ u. u.identity ≡ p.identity) refl refl

    pub tripped_full : w.seen.full ≡ suc (count_in (geometry_of p) word)
    tripped_full = both (λ u. u.seen.full ≡ suc (count_in (geometry_of p) word)) refl refl

    pub tripped_call : w.call ≡ p.call ++ addition p size word ∷ []
    tripped_call = both (λ u. u.call ≡ p.call ++ addition p size word ∷ []) refl refl

    pub tripped_frames : w.work.frames ≡ p.work.frames
    tripped_frames = both (λ u. u.work.frames ≡ p.work.frames) refl refl

    tripped_armed : w.right.armed ≡ 0
    tripped_armed = both (λ u. u.right.armed ≡ 0) refl refl

    pub to_pad : ToPad w word
    to_pad =
        let same = tripped_geometry in
        record {
          term = subst (λ i. count_in i.geometry word < 2147483648) (sym tripped_geometry) told.term.small;
          unit = told.unit;
          draft = λ l. (let lower : offset_in word < term_of p = subst (λ i. offset_in word < i.geometry.term_length) tripped_geometry l in blank_there lower);
        }
      where
        blank_there : offset_in word < term_of p → HasBlank w (start_in (geometry_of w) word) (term_of w - offset_in word)
        blank_there l = subst (λ (u : Pass). HasBlank u (start_in (geometry_of u) word) (term_of u - offset_in word)) (sym (told.trips l over)) (record { front = p.work.drafts; behind = []; parts = refl })

    module _ (x : Pass) (pads : Pads w word x) where
      padded_is : offset_in word < term_of p → Keeps (padded p word) x × (x.call ≡ p.call ++ addition p size word ∷ []) × (x.right.armed ≡ 0) × (x.seen.full ≡ suc (count_in (geometry_of p) word))
      padded_is l =
          let fills : Pads below_is word x = subst (λ (u : Pass). Pads u word x) (told.trips l over) pads in
          let frames : List FrameWords = p.work.frames ++ frame_at p.identity (start_in (geometry_of p) word) (Pad (term_of p - offset_in word)) ∷ [] in
          let e : x ≡ with_work (p.work.frames ++ frame_at p.identity (start_in (geometry_of p) word) (Pad (term_of p - offset_in word)) ∷ []) p.work.drafts below_is =
          fills.below l p.work.drafts [] refl ∙ ap (λ (ds : List FrameWords). with_work (p.work.frames ++ frame_at p.identity (start_in (geometry_of p) word) (Pad (term_of p - offset_in word)) ∷ []) ds below_is) (append-nil p.work.drafts) in
          (keeps_by (padded p word) (with_work (p.work.frames ++ frame_at p.identity (start_in (geometry_of p) word) (Pad (term_of p - offset_in word)) ∷ []) p.work.drafts below_is) x e refl, ap (λ (u : Pass). u.call) e, ap (λ (u : Pass). u.right.armed) e, ap (λ (u : Pass). u.seen.full) e)

      over_is : term_of p ≤ offset_in word → Keeps p x × (x.call ≡ p.call ++ addition p size word ∷ []) × (x.right.armed ≡ 0) × (x.seen.full ≡ suc (count_in (geometry_of p) word))
      over_is l =
          let stays : Pads above_is word x = subst (λ (u : Pass). Pads u word x) (told.over l) pads in
          let e : x ≡ above_is = stays.over l in
          (keeps_by p above_is x e refl, ap (λ (u : Pass). u.call) e, ap (λ (u : Pass). u.right.armed) e, ap (λ (u : Pass). u.seen.full) e)

      either : (A : Type 0) → (offset_in word < term_of p → A) → (term_of p ≤ offset_in word → A) → A
      either A f g = ⊎_elim f g (cases_lt (offset_in word) (term_of p))

      pub call_then : x.call ≡ p.call ++ addition p size word ∷ []
      call_then = either (x.call ≡ p.call ++ addition p size word ∷ []) (λ l. (padded_is l).1) (λ l. (over_is l).1)

      pub full_then : x.seen.full ≡ suc (count_in (geometry_of p) word)
      full_then = either (x.seen.full ≡ suc (count_in (geometry_of p) word)) (λ l. (padded_is l).3) (λ l. (over_is l).3)

      armed_then : x.right.armed ≡ 0
      armed_then = either (x.right.armed ≡ 0) (λ l. (padded_is l).2) (λ l. (over_is l).2)

      shape_then : geometry_of x ≡ geometry_of p
      shape_then = either (geometry_of x ≡ geometry_of p) (λ l. ap (λ (u : Pass). geometry_of u) (padded_is l).0) (λ l. ap (λ (u : Pass). geometry_of u) (over_is l).0)

      pub tripping : (q : Pass) (count : ℕ) (why : Refusal) → p.seen.term ≡ count → Takes (TurnsFrom (geometry_of x) (count_in (geometry_of p) word)) x q → EndsTerm (count_in (geometry_of p) word) why → Tripping p count size why q
      tripping q count why at turns ends = record {
        word = word;
        more = turns.taken;
        call = turns.call ∙ ap (λ (c : List WordStep). c ++ turns.taken) (call_then ∙ ap (λ (c : ℕ). p.call ++ steps.Addition (c % 3) (framed_length (geometry_of p) size) word ∷ []) at);
        over = over;
        term = told.term;
        why_is = ends;
        leaves = record {
          below = λ l. keeps (padded p word) x q (padded_is l).0 turns.after;
          over = λ l. keeps p x q (over_is l).0 turns.after;
          behind = told.behind;
        };
        turns = subst (λ (g : Geometry). TurnsFrom g (count_in (geometry_of p) word) turns.taken) shape_then turns.such;
        idle = turns.armed ∙ armed_then;
        full = turns.full ∙ full_then;
      }
