-- What the book of a log shows of the lanes that were published from.
use Rattle.std.proofs.Common.{◌≡◌, ℕ, ◌+◌, ◌-◌, ◌*◌, ◌/◌, ◌≤◌, ◌==◌, cond, Bool, true, false, List, [], ◌∷◌, map, sym, refl, ap, ◌∙◌, subst, arith}
use Rattle.std.specs.List.{AllByRecursion}
use Rattle.theory.specs.Entry.{Entry, entry_end, length_of}
use Rattle.theory.specs.Position.{span}
use Rattle.theory.specs.Tiling.{Tiles}
use Rattle.publication.specs.declared.pass.ClaimRange.{ClaimRange}
use Rattle.shared_log.specs.Steps.Handles.{LogValue, PublisherValue}
use Rattle.log_rule.specs.Claims.Rule.{entry_of}
use Rattle.log_rule.specs.Claims.Sums.{total}
use Rattle.log_rule.proofs.Claimed.Totals.{extent_of}
use Rattle.log_rule.specs.Shares.{range_bytes}
use Rattle.shared_log.specs.Books.{ShowsBook, share_as, weight_in}
use Rattle.shared_log.specs.declared.book.Book.{Book}
use Rattle.speed.specs.declared.rounds.lane.Lane.{Lane}
use Rattle.speed.specs.Rounds.{IsFilled, IsLane, IsPiece, IsSent, accepted_in, bytes_by, message_in, padding_in, publisher_in}

-- ---- the claims of one publisher

-- all are its own
own_bytes : (t n m : ℕ) (cs : List ClaimRange) → AllByRecursion (IsSent t m) cs → total (bytes_by n) (map entry_of cs) ≡ cond (m == n) (total range_bytes cs) 0
own_bytes t n m [] sent = none (m == n)
  where
    none : (b : Bool) → let z : ℕ = 0 in z ≡ cond b z z
    none true = refl
    none false = refl
own_bytes t n m (c ∷ cs) sent =
    let e : bytes_by n (entry_of c) ≡ cond (m == n) (span c.cuts) 0 = ap (λ (o : ℕ). cond (o == n) (span c.cuts) 0) sent.0.owner in
    let r = own_bytes t n m cs sent.1 in
    (λ i. e i + r i) ∙ one (m == n) (span c.cuts) (total range_bytes cs)
  where
    one : (b : Bool) (x y : ℕ) → cond b x 0 + cond b y 0 ≡ cond b (x + y) 0
    one true x y = refl
    one false x y = refl

-- what a message covers
message_bytes : Entry → ℕ
message_bytes e = cond e.padding 0 (length_of e)

-- which is 256 bytes for each
sent_bytes : (t m : ℕ) (cs : List ClaimRange) → AllByRecursion (IsSent t m) cs → total message_bytes (map entry_of cs) ≡ total message_in (map entry_of cs) * 256
unfolding message_bytes
sent_bytes t m [] sent = refl
sent_bytes t m (c ∷ cs) sent =
    let e = each c.padding (span c.cuts) (λ no. ap span (sent.0.message no)) in let r = sent_bytes t m cs sent.1 in
    more (cond c.padding 0 (span c.cuts)) (cond c.padding 0 1) (total message_bytes (map entry_of cs)) (total message_in (map entry_of cs)) e r
  where
    each : (b : Bool) (x : ℕ) → (b ≡ false → x ≡ 256) → cond b 0 x ≡ cond b 0 1 * 256
    each true x e = refl
    each false x e = e refl

    more : (x a y b : ℕ) → x ≡ a * 256 → y ≡ b * 256 → x + y ≡ (a + b) * 256
    more x a y b e f = omega arith

-- how far an entry is from what a log is filled with
wrong : ℕ → Entry → ℕ
wrong t e = cond e.padding (e.start / t * t + t - entry_end e) (length_of e - 256 + (256 - length_of e))

none_wrong : (t m : ℕ) (cs : List ClaimRange) → AllByRecursion (IsSent t m) cs → total (wrong t) (map entry_of cs) ≡ 0
unfolding wrong
none_wrong t m [] sent = refl
none_wrong t m (c ∷ cs) sent =
    let r = none_wrong t m cs sent.1 in
    let here = none c.padding (c.start / t * t + t - (c.start + span c.cuts)) (span c.cuts - 256 + (256 - span c.cuts)) (λ is. let le = sent.0.padding is in omega arith) (λ is. let e : span c.cuts ≡ 256 = ap span (sent.0.message is) in omega arith) in
    omega arith
  where
    none : (b : Bool) (x y : ℕ) → (b ≡ true → x ≡ 0) → (b ≡ false → y ≡ 0) → cond b x y ≡ 0
    none true x y e f = e refl
    none false x y e f = f refl

-- ---- all of them

total_all : (f g : PublisherValue → ℕ) (l : LogValue) (lanes : List Lane) → ((x : Lane) → IsLane l x → f x.publisher ≡ g x.publisher) → AllByRecursion (IsLane l) lanes → total f (map publisher_in lanes) ≡ total g (map publisher_in lanes)
total_all f g l [] e all = refl
total_all f g l (x ∷ xs) e all = λ i. e x all.0 i + total_all f g l xs e all.1 i

counted : (l : LogValue) (lanes : List Lane) → AllByRecursion (IsLane l) lanes → total (weight_in message_in) (map publisher_in lanes) ≡ total accepted_in lanes
counted l [] all = refl
counted l (x ∷ xs) all = λ i. all.0.counted i + counted l xs all.1 i

times : (f : PublisherValue → ℕ) (ps : List PublisherValue) → total (λ p. f p * 256) ps ≡ total f ps * 256
times f [] = refl
times f (p ∷ ps) = let r = times f ps in omega arith

-- an entry is a message or a padding
parted : (es : List Entry) → total length_of es ≡ total message_bytes es + total padding_in es
unfolding message_bytes
parted [] = refl
parted (e ∷ es) = let r = parted es in let a = either e.padding (length_of e) in four (length_of e) (cond e.padding 0 (length_of e)) (cond e.padding (length_of e) 0) (total length_of es) (total message_bytes es) (total padding_in es) a r
  where
    either : (b : Bool) (x : ℕ) → x ≡ cond b 0 x + cond b x 0
    either true x = omega arith
    either false x = omega arith

    four : (x a b y c d : ℕ) → x ≡ a + b → y ≡ c + d → x + y ≡ a + c + (b + d)
    four x a b y c d e f = omega arith

wrongs : (t : ℕ) (l : LogValue) (lanes : List Lane) → t ≡ l.identity.geometry.term_length → AllByRecursion (IsLane l) lanes → total (weight_in (wrong t)) (map publisher_in lanes) ≡ 0
wrongs t l [] e all = refl
wrongs t l (x ∷ xs) e all =
    let cs = x.publisher.pass.right.claims in let n = x.publisher.pass.number in
    let here = none_wrong t n cs (subst (λ (k : ℕ). AllByRecursion (IsSent k n) cs) (sym e) all.0.sender.sent) in let r = wrongs t l xs e all.1 in omega arith

pieces : (t p q : ℕ) (es : List Entry) → Tiles t p q es → total (wrong t) es ≡ 0 → AllByRecursion (IsPiece t) es
unfolding wrong
pieces t p q [] tiles none = tt
pieces t p q (e ∷ es) tiles none =
    let here : wrong t e ≡ 0 = omega arith in (
      record {
        message = λ is. let z : length_of e - 256 + (256 - length_of e) ≡ 0 = sym (ap (λ (b : Bool). cond b (e.start / t * t + t - entry_end e) (length_of e - 256 + (256 - length_of e))) is) ∙ here in omega arith;
        padding = λ is. let z : e.start / t * t + t - entry_end e ≡ 0 = sym (ap (λ (b : Bool). cond b (e.start / t * t + t - entry_end e) (length_of e - 256 + (256 - length_of e))) is) ∙ here in
            let low : entry_end e ≤ e.start / t * t + t = subst (λ (x : ℕ). entry_end e ≤ x / t * t + t) (sym tiles.0) tiles.1 in omega arith;
      },
      pieces t (entry_end e) q es tiles.2 (omega arith),
    )

pub filled : (l : LogValue) (lanes : List Lane) (book : Book) (n : ℕ) → l.start ≡ 0 → AllByRecursion (IsLane l) lanes → ShowsBook l (map publisher_in lanes) book → n ≡ total accepted_in lanes → IsFilled l.identity.geometry book n
filled l lanes book n zero all b e =
    let ps = map publisher_in lanes in let t = b.tiled in
    let messages : total message_in t.log ≡ n = sym (t.fair message_in) ∙ counted l lanes all ∙ sym e in
    let sized : total (weight_in message_bytes) ps ≡ total (weight_in message_in) ps * 256 = total_all (weight_in message_bytes) (λ p. weight_in message_in p * 256) l lanes (λ x lane. sent_bytes _ _ _ lane.sender.sent) all ∙ times (weight_in message_in) ps in
    let bytes : total message_bytes t.log ≡ n * 256 = sym (t.fair message_bytes) ∙ sized ∙ ap (λ (k : ℕ). k * 256) (t.fair message_in ∙ messages) in
    let tiles : Tiles l.identity.geometry.term_length 0 book.tail t.log = subst (λ (s : ℕ). Tiles l.identity.geometry.term_length s book.tail t.log) zero t.tiles in
    record {
      start = b.start ∙ zero;
      whole = b.whole;
      log = t.log;
      tiles = tiles;
      pieces = pieces l.identity.geometry.term_length 0 book.tail t.log tiles (sym (t.fair (wrong l.identity.geometry.term_length)) ∙ wrongs l.identity.geometry.term_length l lanes refl all);
      shares = λ k low. b.shares k low ∙ sym (total_all (weight_in (bytes_by k)) (share_as k) l lanes (λ x lane. own_bytes _ k _ _ lane.sender.sent) all) ∙ t.fair (bytes_by k);
      messages = messages;
      bytes = sums book.tail l.start (total length_of t.log) (total message_bytes t.log) (n * 256) (total padding_in t.log) (extent_of l.identity.geometry.term_length l.start book.tail t.log t.tiles) zero (parted t.log) bytes;
    }
  where
    sums : (tail start all m n p : ℕ) → start + all ≡ tail → start ≡ 0 → all ≡ m + p → m ≡ n → tail ≡ n + p
    sums tail start all m n p a b c d = omega arith
