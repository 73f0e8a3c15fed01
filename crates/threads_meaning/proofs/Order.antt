-- What `publication` commits is in the order of its claims.
use Rattle.std.proofs.Common.{◌≡◌, inl, inr, ⊎_elim, ℕ, ◌+◌, ◌-◌, ◌*◌, ◌/◌, ◌<◌, ◌≤◌, Bool, true, false, List, [], ◌∷◌, ◌++◌, length, map, min, replicate, sym, refl, ap, ◌∙◌, subst, arith}
use Rattle.std.specs.List.{AllByRecursion}
use Rattle.std.proofs.lemmas.List.{length-replicate}
use Rattle.theory.specs.Bytes.{Identity}
use Rattle.theory.specs.Entry.{ArePieces, IsPiece, flags_of, pieces_of}
use Rattle.theory.specs.Placed.{Among, Data, Frame, Pad, frame_length, payload_of}
use Rattle.theory.specs.Position.{Geometry, aligned, cuts_of, span}
use Rattle.theory.specs.Wire.{IsDataFlags}
use Rattle.theory.proofs.Cuts.{cut_short, cut_units}
use Rattle.theory.proofs.Lists.{all_weaker, among_cases, among_right}
use Rattle.position.specs.Words.{IsLegal, frame_words}
use Rattle.publication.specs.declared.pass.ClaimRange.{ClaimRange}
use Rattle.publication.specs.declared.pass.FrameWords.{FrameWords}
use Rattle.publication.specs.declared.pass.Pass.{Pass}
use Rattle.publication.specs.Frames.{CompletesFrame, frames_at, message_frames}
use Rattle.publication.specs.Orders.{EndBelow}
use Rattle.publication.specs.Steps.{Extent, blank, blanks, extent_of, extents, frames_of, geometry_of, message_at, opened, ranges_of, seeing, with_work, works, written}
use Rattle.log_rule.specs.declared.rule.Key.{Key}
use Rattle.log_rule.specs.Claims.Rule.{IsClaimEntry, entry_of}
use Rattle.log_rule.specs.Claims.Sums.{total}
use Rattle.log_rule.proofs.Claimed.Totals.{total_flat, total_map}
use Rattle.log_rule.proofs.Known.{among_total}
use Rattle.model.proofs.Commits.{AreBytes, pieces_are, pieces_bytes, pieces_length}
use Rattle.threads_meaning.specs.Modelled.{spelled}
use Rattle.threads_meaning.specs.Order.{CommitsInOrder, IsSound, OffersInOrder, PassesAreSound, SinglesAreNext, WordsCommit}
use Rattle.threads_meaning.specs.Steps.{IsFrameOf, is_first}
use Rattle.threads_meaning.proofs.Cut.{ExactCut}

-- ---- one frame

made_of : (key : Key) (v : Pass) (p x : ℕ) (h : CompletesFrame v p x) → v.identity ≡ key.identity → written h.draft 0 x ≡ spelled key.identity (record { at = p; frame = h.content })
made_of key v p x h same = (λ i. record { start = sym h.position i; cut = h.whole i; words = (h.spelt ∙ ap (λ (z : Identity). frame_words z p h.content) same) i })

pub words_commit : WordsCommit
words_commit key v w p x h same told = record {
  front = h.front;
  draft = h.draft;
  behind = h.behind;
  parts = h.parts;
  inside = h.inside;
  position = h.position;
  legal = subst (λ (i : Identity). IsLegal i.geometry h.content) same h.legal;
  after = told h.front h.draft h.behind h.parts h.inside h.position ∙ ap (λ (z : FrameWords). with_work (v.work.frames ++ z ∷ []) (h.front ++ h.behind) v) (made_of key v p x h same);
}

blank_long : (p cut : ℕ) → 0 < cut → 0 < length (blank p cut).words
blank_long p cut pos = let none : ℕ = 0 in let e : length (replicate (aligned cut / 8) none) ≡ aligned cut / 8 = length-replicate (aligned cut / 8) none in long (length (replicate (aligned cut / 8) none)) cut e pos
  where
    long : (n c : ℕ) → n ≡ aligned c / 8 → 0 < c → 0 < n
    long n c e pos = omega arith

add_none : (n : ℕ) → n ≡ n + 0
add_none n = omega arith

pub singles_are_next : SinglesAreNext
singles_are_next key v w c cut f same among message single pos h legal long told = (
  record {
    front = h.front;
    draft = blank c.start cut;
    behind = h.behind;
    parts = h.parts;
    inside = blank_long c.start cut pos;
    position = refl;
    legal = legal;
    after = told h.front h.behind (subst (λ (n : ℕ). v.work.drafts ≡ h.front ++ blank c.start n ∷ h.behind) (sym long) h.parts) ∙ ap (λ (i : Identity). with_work (v.work.frames ++ spelled i (record { at = c.start; frame = f }) ∷ []) (h.front ++ h.behind) v) same;
  },
  λ piece. record {
    claim = c;
    among = among;
    here = refl;
    front = [];
    cut = cut;
    behind = [];
    cuts = single;
    place = add_none c.start;
    first = λ d a le. le;
    is = subst (λ (b : Bool). IsFrameOf b [] cut [] f) (sym message) piece;
  },
)

-- ---- the frames of a message

exact_pieces : (first : Bool) (cuts : List ℕ) (fs : List Frame) → ArePieces first cuts fs → length fs ≡ length cuts → ExactCut cuts fs
exact_pieces first [] [] a e = tt
exact_pieces first [] (f ∷ fs) a e = absurd a
exact_pieces first (cut ∷ cuts) [] a e = absurd (omega (arith, e))
exact_pieces first (cut ∷ cuts) (f ∷ fs) a e = (piece_long cut (flags_of first cuts) f a.0, exact_pieces false cuts fs a.1 (omega (arith, e)))
  where
    piece_long : (cut flags : ℕ) (f : Frame) → IsPiece cut flags f → frame_length f ≡ cut
    piece_long cut flags (Data g payload) is = is.1
    piece_long cut flags (Pad n) is = absurd is

flags_are : (first : Bool) (cuts : List ℕ) → IsDataFlags (flags_of first cuts)
flags_are true [] = inr (inr (inr refl))
flags_are false [] = inr (inl refl)
flags_are true (cut ∷ cuts) = inr (inr (inl refl))
flags_are false (cut ∷ cuts) = inl refl

legal_pieces : (g : Geometry) (first : Bool) (cuts : List ℕ) (fs : List Frame) → ArePieces first cuts fs → AllByRecursion (λ cut. cut ≤ g.mtu) cuts → AllByRecursion (λ f. AreBytes (payload_of f)) fs → AllByRecursion (IsLegal g) fs
legal_pieces g first cuts [] a low bytes = tt
legal_pieces g first [] (f ∷ fs) a low bytes = absurd a
legal_pieces g first (cut ∷ cuts) (f ∷ fs) a low bytes = (one cut (flags_of first cuts) f (flags_are first cuts) a.0 low.0 bytes.0, legal_pieces g false cuts fs a.1 low.1 bytes.1)
  where
    one : (cut flags : ℕ) (f : Frame) → IsDataFlags flags → IsPiece cut flags f → cut ≤ g.mtu → AreBytes (payload_of f) → IsLegal g f
    one cut flags (Data h payload) ok is le bytes = (subst IsDataFlags (sym is.0) ok, (let e = is.1 in omega arith), bytes)
    one cut flags (Pad n) ok is le bytes = absurd is

-- open frames behind a position begin there or further on
blanks_from : (p : ℕ) (cuts : List ℕ) (d : FrameWords) → Among d (blanks p cuts) → p ≤ d.start
blanks_from p [] d a = absurd a
blanks_from p (cut ∷ cuts) d (inl e) = let same : d.start ≡ p = ap (λ (f : FrameWords). f.start) e in omega arith
blanks_from p (cut ∷ cuts) d (inr a) = let r = blanks_from (p + aligned cut) cuts d a in omega arith

span_push : (done : List ℕ) (cut : ℕ) → span (done ++ cut ∷ []) ≡ span done + aligned cut
span_push [] cut = omega arith
span_push (c ∷ done) cut = let r = span_push done cut in omega arith

first_push : (done : List ℕ) (cut : ℕ) → is_first (done ++ cut ∷ []) ≡ false
first_push [] cut = refl
first_push (c ∷ done) cut = refl

regroup : {A : Type 0} (xs : List A) (y : A) (ys : List A) → (xs ++ y ∷ []) ++ ys ≡ xs ++ y ∷ ys
regroup [] y ys = refl
regroup (x ∷ xs) y ys = ap {B = List _} (λ l. x ∷ l) (regroup xs y ys)

append_none : {A : Type 0} (xs : List A) → xs ++ [] ≡ xs
append_none [] = refl
append_none (x ∷ xs) = ap {B = List _} (λ l. x ∷ l) (append_none xs)

module _ (key : Key) (c : ClaimRange) (old : List FrameWords) (message : c.padding ≡ false) (below : (d : FrameWords) → Among d old → d.start < c.start) where
  commits_all : (rest : List ℕ) (fs : List Frame) (done : List ℕ) (p : ℕ) (v : Pass) → Among c v.right.claims → c.cuts ≡ done ++ rest → p ≡ c.start + span done → ArePieces (is_first done) rest fs → ExactCut rest fs → AllByRecursion (λ cut. 0 < cut) rest → AllByRecursion (IsLegal key.identity.geometry) fs → v.work.drafts ≡ old ++ blanks p rest
      → CommitsInOrder key c.start p v fs (with_work (v.work.frames ++ frames_at key.identity p fs) old v)
  commits_all [] [] done p v among cuts place pieces exact large legal drafts = (λ i. record v { work = works (append_none v.work.frames i) ((sym (append_none old) ∙ sym drafts) i) })
  commits_all [] (f ∷ fs) done p v among cuts place pieces exact large legal drafts = absurd exact
  commits_all (cut ∷ rest) [] done p v among cuts place pieces exact large legal drafts = absurd exact
  commits_all (cut ∷ rest) (f ∷ fs) done p v among cuts place pieces exact large legal drafts =
      let made : FrameWords = spelled key.identity (record { at = p; frame = f }) in let u : Pass = with_work (v.work.frames ++ made ∷ []) (old ++ blanks (p + aligned cut) rest) v in
      let to : ℕ = p + aligned (frame_length f) in let same : aligned (frame_length f) ≡ aligned cut = ap aligned exact.0 in (
        u,
        record {
          front = old;
          draft = blank p cut;
          behind = blanks (p + aligned cut) rest;
          parts = drafts;
          inside = blank_long p cut large.0;
          position = refl;
          legal = legal.0;
          after = refl;
        },
        record {
          claim = c;
          among = among;
          here = refl;
          front = done;
          cut = cut;
          behind = rest;
          cuts = cuts;
          place = place;
          first = λ d a le. ⊎_elim
              (λ (o : Among d old). absurd (clash c.start d.start (below d o) le))
              (λ (b : Among d (blanks p (cut ∷ rest))). blanks_from p (cut ∷ rest) d b)
              (among_cases d old (blanks p (cut ∷ rest)) (subst (Among d) drafts a));
          is = subst (λ (b : Bool). IsFrameOf b done cut rest f) (sym message) pieces.0;
        },
        subst (CommitsInOrder key c.start to u fs) (ap (λ (frames : List FrameWords). with_work frames old v) (regroup v.work.frames made (frames_at key.identity to fs)))
            (commits_all rest fs (done ++ cut ∷ []) to u among (cuts ∙ sym (regroup done cut rest)) (next p c.start (span done) (aligned (frame_length f)) (aligned cut) (span (done ++ cut ∷ [])) place same (span_push done cut)) (subst (λ (b : Bool). ArePieces b rest fs) (sym (first_push done cut)) pieces.1) exact.1 large.1 legal.1
            (ap (λ (n : ℕ). old ++ blanks (p + n) rest) (sym same))),
      )
    where
      clash : (s d : ℕ) → d < s → s ≤ d → ⊥
      clash s d lt le = omega arith

      next : (p s d f c n : ℕ) → p ≡ s + d → f ≡ c → n ≡ d + c → p + f ≡ s + n
      next p s d f c n a b e = omega arith

-- ---- what the pass had open

-- nothing, or at a position or behind it
beyond : ℕ → Extent → ℕ
beyond s x = (1 - x.bytes) + min 1 (x.start + 1 - s)

none_beyond : (s q : ℕ) (cuts : List ℕ) → AllByRecursion (λ cut. 0 < cut) cuts → q + span cuts ≤ s → total (beyond s) (extents q cuts) ≡ 0
unfolding beyond
none_beyond s q [] large le = refl
none_beyond s q (cut ∷ cuts) large le = let pos : 0 < cut = large.0 in let r = none_beyond s (q + aligned cut) cuts large.1 (omega arith) in sums s q cut (span cuts) (total (beyond s) (extents (q + aligned cut) cuts)) pos le r
  where
    sums : (s q c n t : ℕ) → 0 < c → q + (aligned c + n) ≤ s → t ≡ 0 → (1 - aligned c) + min 1 (q + 1 - s) + t ≡ 0
    sums s q c n t pos le e = omega arith

claims_below : (s : ℕ) (cs : List ClaimRange) → AllByRecursion IsClaimEntry (map entry_of cs) → EndBelow s cs → total (λ c. total (beyond s) (ranges_of c)) cs ≡ 0
claims_below s [] are ends = refl
claims_below s (c ∷ cs) are ends = let a = none_beyond s c.start c.cuts are.0.entry.cuts ends.0 in let r = claims_below s cs are.1 ends.1 in omega arith

opened_below : (key : Key) (p : Pass) (s : ℕ) → IsSound key p → EndBelow s p.right.claims → (d : FrameWords) → Among d p.work.drafts → d.start < s
unfolding beyond
opened_below key p s sound ends d among =
    let one = among_total (λ (f : FrameWords). beyond s (extent_of f)) (frames_of p) d (among_right d p.work.frames p.work.drafts among) in
    let all : total (λ (f : FrameWords). beyond s (extent_of f)) (frames_of p) ≡ 0 = sym (total_map (beyond s) extent_of (frames_of p)) ∙ sym (sound.placed (beyond s)) ∙ total_flat (beyond s) ranges_of p.right.claims ∙ claims_below s p.right.claims sound.entries ends in
    low s d.start (8 * length d.words) (total (λ (f : FrameWords). beyond s (extent_of f)) (frames_of p)) one all
  where
    low : (s d n t : ℕ) → (1 - n) + min 1 (d + 1 - s) ≤ t → t ≡ 0 → d < s
    low s d n t le e = omega arith

pub offers_in_order : OffersInOrder
offers_in_order key p between message start sound bytes claimed =
    let g : Geometry = key.identity.geometry in let c : ClaimRange = message_at p claimed.word (length message) in let least = sound.geometry.mtu.least in
    let e : between ≡ seeing (opened p c) between = claimed.after in
    let same : geometry_of p ≡ g = ap (λ (i : Identity). i.geometry) sound.identity in
    let cuts : c.cuts ≡ cuts_of g (length message) = ap (λ (x : Geometry). cuts_of x (length message)) same in
    let fs : List Frame = pieces_of true (cuts_of g (length message)) message in
    let pieces : ArePieces true (cuts_of g (length message)) fs = pieces_are g message sound.geometry in
    let exact : ExactCut (cuts_of g (length message)) fs = exact_pieces true (cuts_of g (length message)) fs pieces (pieces_length true (cuts_of g (length message)) message) in
    let large : AllByRecursion (λ cut. 0 < cut) (cuts_of g (length message)) = all_weaker (λ cut. 32 ≤ cut) (λ cut. 0 < cut) (λ cut le. omega arith) (cuts_of g (length message)) (cut_units g (length message) (omega arith)) in
    let legal : AllByRecursion (IsLegal g) fs = legal_pieces g true (cuts_of g (length message)) fs pieces (cut_short g (length message) least) (pieces_bytes true (cuts_of g (length message)) message bytes) in
    let from : c.start ≡ start = sym claimed.from in
    let claims : between.right.claims ≡ p.right.claims ++ c ∷ [] = ap (λ (x : Pass). x.right.claims) e in
    let among : Among c between.right.claims = subst (Among c) (sym claims) (among_right c p.right.claims (c ∷ []) (inl refl)) in
    let drafts : between.work.drafts ≡ p.work.drafts ++ blanks c.start (cuts_of g (length message)) = ap (λ (x : Pass). x.work.drafts) e ∙ ap (λ (l : List ℕ). p.work.drafts ++ blanks c.start l) cuts in
    let below : (d : FrameWords) → Among d p.work.drafts → d.start < c.start = opened_below key p c.start sound (subst (λ (n : ℕ). EndBelow n p.right.claims) (sym from) claimed.behind) in
    let all = commits_all key c p.work.drafts refl below (cuts_of g (length message)) fs [] c.start between among cuts (add_none c.start) pieces exact large legal drafts in
    let frames : between.work.frames ++ frames_at key.identity c.start fs ≡ p.work.frames ++ message_frames p.identity true start message = (λ i. ap (λ (x : Pass). x.work.frames) e i ++ frames_at (sym sound.identity i) (from i) (pieces_of true (cuts_of (sym sound.identity i).geometry (length message)) message)) in
    subst (λ (n : ℕ). CommitsInOrder key n n between fs (with_work (p.work.frames ++ message_frames p.identity true start message) p.work.drafts between)) from (subst (λ (x : List FrameWords). CommitsInOrder key c.start c.start between fs (with_work x p.work.drafts between)) frames all)

pub passes_are_sound : PassesAreSound
passes_are_sound key s id v q at = let c = q.ruled.claims.each id v at in record { geometry = q.ruled.claims.sound.geometry; identity = c.identity; entries = c.entries; placed = (q.ruled.memory.each id v at).placed }
