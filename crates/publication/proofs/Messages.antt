-- A message's frames, filled one after the other.
use Rattle.std.proofs.Common.{◌≡◌, ℕ, suc, ◌+◌, ◌-◌, ◌%◌, ◌<◌, ◌≤◌, Bool, true, false, List, [], ◌∷◌, ◌++◌, length, take, drop, length-drop, append_assoc, sym, refl, ap, ◌∙◌, subst, arith}
use Rattle.std.proofs.lemmas.List.{take_all, length-take-le}
use Rattle.theory.specs.Position.{Geometry, IsGeometry, aligned, cuts_of, framed_length, max_payload, max_position, span}
use Rattle.theory.specs.Placed.{Data, Frame}
use Rattle.theory.specs.Entry.{flags_of, pieces_of}
use Rattle.theory.specs.Bytes.{Identity}
use Rattle.theory.proofs.Cuts.{long_cuts, short_cuts}
use Rattle.theory.proofs.Claims.{span_is}
use Rattle.theory.proofs.Pieces.{cuts_behind}
use Rattle.publication.specs.declared.pass.FrameWords.{FrameWords}
use Rattle.publication.specs.declared.pass.Pass.{Pass}
use Rattle.publication.specs.Steps.{blank, blanks, geometry_of, with_work}
use Rattle.publication.specs.Frames.{frame_at, frame_flags, frames_at, message_frames}
use Rattle.publication.specs.Claims.{Fills, HasBlank}
use Rattle.publication.specs.Offers.{FillsAll, HasBlanks}

last_flags : (first : Bool) → frame_flags first true ≡ flags_of first []
last_flags true = refl
last_flags false = refl

more_flags : (first : Bool) (g : Geometry) (n : ℕ) → 0 < length (cuts_of g n) → frame_flags first false ≡ flags_of first (cuts_of g n)
more_flags first g n some = by_cases first (cuts_of g n) some
  where
    by_cases : (first : Bool) (cuts : List ℕ) → 0 < length cuts → frame_flags first false ≡ flags_of first cuts
    by_cases first [] some = absurd (omega (arith, some))
    by_cases true (cut ∷ cuts) some = refl
    by_cases false (cut ∷ cuts) some = refl

-- ---- the last frame

pub last_blank : (v : Pass) (p : ℕ) (rest : List ℕ) → length rest ≤ max_payload (geometry_of v) → HasBlanks v p (cuts_of (geometry_of v) (length rest)) → HasBlank v p (32 + length rest)
last_blank v p rest low b =
    let cuts : cuts_of (geometry_of v) (length rest) ≡ (32 + length rest) ∷ [] = short_cuts (geometry_of v) (length rest) low ∙ ap (λ (n : ℕ). n ∷ []) (let g : length rest + 32 ≡ 32 + length rest = omega arith in g) in
    record { front = b.front; behind = b.behind; parts = b.parts ∙ ap (λ (cs : List ℕ). b.front ++ (blanks p cs ++ b.behind)) cuts }

pub fits_frame : (v w : Pass) (n : ℕ) → geometry_of w ≡ geometry_of v → n ≤ max_payload (geometry_of v) → n ≤ max_payload (geometry_of w)
fits_frame v w n shape low = subst (λ (h : Geometry). n ≤ max_payload h) (sym shape) low

pub part_fits : (v w : Pass) (n : ℕ) → geometry_of w ≡ geometry_of v → IsGeometry (geometry_of v) → n ≤ max_payload (geometry_of v) → 32 + n ≤ (geometry_of w).mtu
part_fits v w n same legal few =
    subst (λ (g : Geometry). 32 + n ≤ g.mtu) (sym same) (fits (geometry_of v) legal few)
  where
    fits : (g : Geometry) → IsGeometry g → n ≤ max_payload g → 32 + n ≤ g.mtu
    fits g legal few = (let least = legal.mtu.least in omega (arith, least, few))

pub begins_in : (v w : Pass) (at more : ℕ) → geometry_of w ≡ geometry_of v → at + more ≤ max_position (geometry_of v) → at ≤ max_position (geometry_of w)
begins_in v w at more same within = subst (λ (g : Geometry). at ≤ max_position g) (sym same) (begins (max_position (geometry_of v)) within)
  where
    begins : (n : ℕ) → at + more ≤ n → at ≤ n
    begins n h = omega (arith, h)

pub last_filled : (v w : Pass) (first : Bool) (p : ℕ) (rest : List ℕ) → length rest ≤ max_payload (geometry_of v) → Fills v p (Data (frame_flags first true) rest) w → FillsAll v first p rest w
last_filled v w first p rest low fills front behind parts =
    let cuts : cuts_of (geometry_of v) (length rest) ≡ (32 + length rest) ∷ [] = short_cuts (geometry_of v) (length rest) low ∙ ap (λ (n : ℕ). n ∷ []) (let g : length rest + 32 ≡ 32 + length rest = omega arith in g) in
    let body : pieces_of first (cuts_of (geometry_of v) (length rest)) rest ≡ Data (frame_flags first true) rest ∷ [] =
    ap (λ (cs : List ℕ). pieces_of first cs rest) cuts
    ∙ ap (λ (xs : List ℕ). Data (flags_of first []) xs ∷ []) (take_all (32 + length rest - 32) rest (omega arith))
    ∙ ap (λ (n : ℕ). Data n rest ∷ []) (sym (last_flags first)) in
    fills front behind (parts ∙ ap (λ (cs : List ℕ). front ++ (blanks p cs ++ behind)) cuts)
    ∙ ap (λ (fs : List Frame). with_work (v.work.frames ++ frames_at v.identity p fs) (front ++ behind) v) (sym body)

pub last_stored : (g : Geometry) (n : ℕ) → n ≤ max_payload g → length (cuts_of g n) ≡ 1
last_stored g n low = ap length (short_cuts g n low)

-- ---- a full frame, and those behind it

module _ (g : Geometry) (legal : IsGeometry g) where
  long : 32 < g.mtu
  long = omega (arith, legal.mtu.least)

  unit : g.mtu % 32 ≡ 0
  unit = legal.mtu.unit

  aligned_mtu : aligned (32 + max_payload g) ≡ g.mtu
  aligned_mtu = omega (arith, long, unit)

  pub full_stored : (n : ℕ) → max_payload g < n → length (cuts_of g n) ≡ 1 + length (cuts_of g (n - max_payload g))
  full_stored n high = ap length (cuts_behind g n long high) ∙ (let e : suc (length (cuts_of g (n - max_payload g))) ≡ 1 + length (cuts_of g (n - max_payload g)) = omega arith in e)

  -- and what it covers
  pub full_framed : (n : ℕ) → max_payload g < n → framed_length g n ≡ g.mtu + framed_length g (n - max_payload g)
  full_framed n high =
      sym (span_is g legal.mtu.unit legal.mtu.least n)
      ∙ ap span (cuts_behind g n long high)
      ∙ ap (λ (k : ℕ). k + span (cuts_of g (n - max_payload g))) (let e : aligned g.mtu ≡ g.mtu = omega (arith, unit) in e)
      ∙ ap (λ (k : ℕ). g.mtu + k) (span_is g legal.mtu.unit legal.mtu.least (n - max_payload g))

  some_cuts : (n : ℕ) → 0 < length (cuts_of g n)
  some_cuts n = some (cuts_of g n) (long_cuts g n (omega (arith, long)))
    where
      some : (cuts : List ℕ) → 0 < span cuts → 0 < length cuts
      some [] h = absurd (omega (arith, h))
      some (cut ∷ cuts) h = omega arith

  module _ (rest : List ℕ) (high : max_payload g < length rest) where
    part_long : length (take (max_payload g) rest) ≡ max_payload g
    part_long = length-take-le (max_payload g) rest (omega (arith, high))

    -- it covers as much as the MTU
    pub part_covers : aligned (32 + length (take (max_payload g) rest)) ≡ g.mtu
    part_covers = ap (λ (n : ℕ). aligned (32 + n)) part_long ∙ aligned_mtu

    cuts_are : cuts_of g (length rest) ≡ g.mtu ∷ cuts_of g (length (drop (max_payload g) rest))
    cuts_are = cuts_behind g (length rest) long high ∙ ap (λ (n : ℕ). g.mtu ∷ cuts_of g n) (sym (length-drop (max_payload g) rest))

    cuts_by : cuts_of g (length rest) ≡ (32 + length (take (max_payload g) rest)) ∷ cuts_of g (length (drop (max_payload g) rest))
    cuts_by = cuts_are ∙ ap (λ (n : ℕ). n ∷ cuts_of g (length (drop (max_payload g) rest))) (let e : g.mtu ≡ 32 + length (take (max_payload g) rest) = omega (arith, part_long, long) in e)

    pieces_are : (first : Bool) → pieces_of first (cuts_of g (length rest)) rest ≡ Data (frame_flags first false) (take (max_payload g) rest) ∷ pieces_of false (cuts_of g (length (drop (max_payload g) rest))) (drop (max_payload g) rest)
    pieces_are first =
        ap (λ (cs : List ℕ). pieces_of first cs rest) cuts_are
        ∙ ap (λ (n : ℕ). Data n (take (max_payload g) rest) ∷ pieces_of false (cuts_of g (length (drop (max_payload g) rest))) (drop (max_payload g) rest)) (sym (more_flags first g (length (drop (max_payload g) rest)) (some_cuts (length (drop (max_payload g) rest)))))

    frames_are : (i : Identity) → i.geometry ≡ g → (first : Bool) (p : ℕ) → message_frames i first p rest ≡ frame_at i p (Data (frame_flags first false) (take (max_payload g) rest)) ∷ message_frames i false (p + g.mtu) (drop (max_payload g) rest)
    frames_are i e first p =
        ap (λ (h : Geometry). frames_at i p (pieces_of first (cuts_of h (length rest)) rest)) e
        ∙ ap (frames_at i p) (pieces_are first)
        ∙ ap (λ (n : ℕ). frame_at i p (Data (frame_flags first false) (take (max_payload g) rest)) ∷ frames_at i (p + n) (pieces_of false (cuts_of g (length (drop (max_payload g) rest))) (drop (max_payload g) rest))) part_covers
        ∙ ap (λ (h : Geometry). frame_at i p (Data (frame_flags first false) (take (max_payload g) rest)) ∷ frames_at i (p + g.mtu) (pieces_of false (cuts_of h (length (drop (max_payload g) rest))) (drop (max_payload g) rest))) (sym e)

    drafts_by : (front behind drafts : List FrameWords) (p : ℕ) → drafts ≡ front ++ (blanks p (cuts_of g (length rest)) ++ behind)
        → drafts ≡ front ++ blank p (32 + length (take (max_payload g) rest)) ∷ (blanks (p + g.mtu) (cuts_of g (length (drop (max_payload g) rest))) ++ behind)
    drafts_by front behind drafts p parts =
        parts
        ∙ ap (λ (cs : List ℕ). front ++ (blanks p cs ++ behind)) cuts_by
        ∙ ap (λ (n : ℕ). front ++ blank p (32 + length (take (max_payload g) rest)) ∷ (blanks (p + n) (cuts_of g (length (drop (max_payload g) rest))) ++ behind)) part_covers

    module _ (v : Pass) (shape : geometry_of v ≡ g) (first : Bool) (p : ℕ) where
      parts_in : (front behind : List FrameWords) → v.work.drafts ≡ front ++ (blanks p (cuts_of (geometry_of v) (length rest)) ++ behind)
          → v.work.drafts ≡ front ++ blank p (32 + length (take (max_payload g) rest)) ∷ (blanks (p + g.mtu) (cuts_of g (length (drop (max_payload g) rest))) ++ behind)
      parts_in front behind parts = drafts_by front behind v.work.drafts p (parts ∙ ap (λ (h : Geometry). front ++ (blanks p (cuts_of h (length rest)) ++ behind)) shape)

      pub full_blank : HasBlanks v p (cuts_of (geometry_of v) (length rest)) → HasBlank v p (32 + length (take (max_payload g) rest))
      full_blank b = record { front = b.front; behind = blanks (p + g.mtu) (cuts_of g (length (drop (max_payload g) rest))) ++ b.behind; parts = parts_in b.front b.behind b.parts }

      module _ (x : Pass) (fills : Fills v p (Data (frame_flags first false) (take (max_payload g) rest)) x) where
        full_is : (front behind : List FrameWords) → v.work.drafts ≡ front ++ (blanks p (cuts_of (geometry_of v) (length rest)) ++ behind)
            → x ≡ with_work (v.work.frames ++ frame_at v.identity p (Data (frame_flags first false) (take (max_payload g) rest)) ∷ []) (front ++ (blanks (p + g.mtu) (cuts_of g (length (drop (max_payload g) rest))) ++ behind)) v
        full_is front behind parts = fills front (blanks (p + g.mtu) (cuts_of g (length (drop (max_payload g) rest))) ++ behind) (parts_in front behind parts)

        drafts_left : (front behind : List FrameWords) → v.work.drafts ≡ front ++ (blanks p (cuts_of (geometry_of v) (length rest)) ++ behind)
            → x.work.drafts ≡ front ++ (blanks (p + g.mtu) (cuts_of (geometry_of x) (length (drop (max_payload g) rest))) ++ behind)
        drafts_left front behind parts =
            let e = full_is front behind parts in
            ap (λ (u : Pass). u.work.drafts) e ∙ ap (λ (h : Geometry). front ++ (blanks (p + g.mtu) (cuts_of h (length (drop (max_payload g) rest))) ++ behind)) (sym (ap (λ (u : Pass). geometry_of u) e ∙ shape))

        pub full_shape : HasBlanks v p (cuts_of (geometry_of v) (length rest)) → geometry_of x ≡ g
        full_shape b = ap (λ (u : Pass). geometry_of u) (full_is b.front b.behind b.parts) ∙ shape

        pub full_left : HasBlanks v p (cuts_of (geometry_of v) (length rest)) → HasBlanks x (p + g.mtu) (cuts_of (geometry_of x) (length (drop (max_payload g) rest)))
        full_left b = record { front = b.front; behind = b.behind; parts = drafts_left b.front b.behind b.parts }

        -- who fills the rest fills all
        pub full_filled : (w : Pass) → FillsAll x false (p + g.mtu) (drop (max_payload g) rest) w → FillsAll v first p rest w
        full_filled w then front behind parts =
            let e = full_is front behind parts in
            let part : List FrameWords = frame_at v.identity p (Data (frame_flags first false) (take (max_payload g) rest)) ∷ [] in
            let left : List FrameWords = message_frames v.identity false (p + g.mtu) (drop (max_payload g) rest) in
            then front behind (drafts_left front behind parts)
            ∙ ap (λ (u : Pass). with_work (u.work.frames ++ message_frames u.identity false (p + g.mtu) (drop (max_payload g) rest)) (front ++ behind) u) e
            ∙ ap (λ (fs : List FrameWords). with_work fs (front ++ behind) v) (append_assoc v.work.frames part left)
            ∙ ap (λ (fs : List FrameWords). with_work (v.work.frames ++ fs) (front ++ behind) v) (sym (frames_are v.identity shape first p))
