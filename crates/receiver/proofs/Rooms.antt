-- An image that a SETUP opened keeps room for its readers until they are given away.
use Rattle.std.proofs.Common.{IfSome, ◌≡◌, ℕ, zero, suc, ◌≤◌, List, [], ◌∷◌, ◌++◌, length, length-append, Option, None, Some, sym, ap, ◌∙◌, subst, arith}
use Rattle.std.specs.Arc.{arc_value}
use Rattle.std.specs.List.{All}
use Rattle.image.specs.Handles.{ImageWords, IsReaderOf, ReaderSeat, position_of}
use Rattle.image.specs.Meeting.{number_of}
use Rattle.image.specs.Rebuilding.{Inserting, IsInserterOf, join_of}
use Rattle.receiver.specs.Dealt.{AreDealt, HasRoom, IsOpenImage, TakesReaders}
use Rattle.receiver.specs.declared.readers.Readers.{Readers}
use Rattle.receiver.proofs.ReadOn.{same_words}

room_as : (i j : Inserting) (room : Option Readers) → j.of ≡ i.of → j.key ≡ i.key → j.undealt ≡ i.undealt → HasRoom i room → HasRoom j room
room_as i j None of key undealt h = undealt ∙ h
room_as i j (Some r) of key undealt h = (
  undealt ∙ h.0 ∙ (λ n. (sym key n).consumers),
  h.1,
  (let e : j.key.consumers ≡ i.key.consumers = (λ n. (key n).consumers) in let c = h.2 in omega arith),
  h.3 ∙ (λ n. record { of = sym of n; key = sym key n }),
)

-- what stays of an image
pub open_as : (image : ImageWords) (i j : Inserting) (room : Option Readers) → IsOpenImage image i room → j.of ≡ i.of → j.key ≡ i.key → j.undealt ≡ i.undealt → IsOpenImage image j room
open_as image i j room is of key undealt = record {
  fits = record { of = of ∙ is.fits.of; key = key ∙ is.fits.key };
  few = (let e : j.key.consumers ≡ i.key.consumers = (λ n. (key n).consumers) in let f = is.few in omega arith);
  kept = room_as i j room of key undealt is.kept;
}

pub open_same : (image : ImageWords) (i j : Inserting) (room : Option Readers) → IsOpenImage image i room → j ≡ i → IsOpenImage image j room
open_same image i j room is e = subst (λ (x : Inserting). IsOpenImage image x room) (sym e) is

-- what is dealt is of the image
pub all_of : (image : ImageWords) (join k : ℕ) (rs : List ReaderSeat) → AreDealt image join k rs → All (IsReaderOf image) rs
all_of image join k [] h j d lt = absurd (omega arith)
all_of image join k (r ∷ rs) h zero d lt = h.0
all_of image join k (r ∷ rs) h (suc j) d lt = all_of image join k rs h.3 j d (omega arith)

-- one more is dealt
pub dealt_more : (image : ImageWords) (join k : ℕ) (rs : List ReaderSeat) (r : ReaderSeat) → AreDealt image join (suc k) rs → IsReaderOf image r → number_of r ≡ k → position_of r ≡ join → AreDealt image join k (rs ++ r ∷ [])
dealt_more image join k [] r h of number at = (of, omega arith, at, tt)
dealt_more image join k (q ∷ qs) r h of number at = (h.0, (let n = h.1 in let l = length-append qs (r ∷ []) in omega arith), h.2, dealt_more image join k qs r h.3 of number at)

-- it has no room then
pub open_given : (image : ImageWords) (i j : Inserting) → IsInserterOf image i → i.key.consumers ≤ 8 → j ≡ record i { undealt = 0 } → IsOpenImage image j None
open_given image i j fits few left = record {
  fits = record { of = ap (λ (x : Inserting). x.of) left ∙ fits.of; key = ap (λ (x : Inserting). x.key) left ∙ fits.key };
  few = (let e = ap (λ (x : Inserting). x.key.consumers) left in omega arith);
  kept = ap (λ (x : Inserting). x.undealt) left;
}

pub taken_is : (image : ImageWords) (i v j : Inserting) (room : Readers) (taken : Readers) (count : ℕ) → i ≡ v → IsOpenImage image i (Some room) → arc_value taken.image ≡ arc_value room.image → count ≡ i.key.consumers → j ≡ record i { undealt = 0 }
    → AreDealt image (join_of i) 0 taken.readers.items → length taken.readers.items ≡ count → TakesReaders v taken j
taken_is image i v j room taken count same is kept n left dealt long =
    subst (λ (x : Inserting). TakesReaders x taken j) same
    (record {
      whole = is.kept.0;
      left = left;
      image = kept ∙ is.kept.3;
      readers = subst (λ (x : ImageWords). AreDealt x (join_of i) 0 taken.readers.items) (sym (same_words image i is.fits)) dealt;
      count = long ∙ n;
    })

-- as many readers are taken as the image has consumers
pub taken_count : (o : Option Readers) (i : Inserting) (w : Inserting) (n : ℕ) → IfSome o (λ r. TakesReaders i r w) → i.key.consumers ≡ n → IfSome o (λ r. length r.readers.items ≡ n)
taken_count None i w n taken e = taken
taken_count (Some r) i w n taken e = taken.count ∙ e
