-- The parts of a plain log, by its fields, and what its calls make of them.
use Rattle.std.proofs.Common.{◌≡◌, ◌∙◌, ℕ, zero, suc, ◌+◌, ◌/◌, ◌<◌, ◌≤◌, List, [], ◌∷◌, ◌++◌, length, Option, None, Some, Result, cond, refl, sym, ap, subst, arith}
use Rattle.std.specs.Option.{option_map}
use Rattle.std.specs.Prelude.{IsOk, is_ok, slice_get, slice_index, slice_index_or, slice_set}
use Rattle.std.proofs.lemmas.Bool.{cond-true}
use Rattle.std.proofs.lemmas.List.{length-append}
use Rattle.theory.specs.Position.{aligned, framed_length, max_message, max_payload}
use Rattle.theory.proofs.Claims.{covers_framed}
use Rattle.theory.proofs.Places.{power_unit}
use Rattle.one_hand.specs.Stream.{Aborts, Commits, Fits, OpenClaim, Stream, case_of, claim_by, room, term_of, with_abort, with_claim, with_commit, with_message, with_padding}
use Rattle.one_hand.proofs.Cases.{has_room}
use Rattle.log_tests.specs.declared.plain_log.addition.Addition.{Addition}
use Rattle.log_tests.specs.declared.plain_log.addition.Content.TheVariants as content
use Rattle.log_tests.specs.declared.plain_log.addition.PlacedClaim.{PlacedClaim}
use Rattle.log_tests.specs.declared.plain_log.PlainLog.TheInside.{Inside}
use Rattle.log_tests.specs.Plain.{IsPlain, Plain, stream_of}
use Rattle.log_tests.proofs.Plain.Rows.{bytes_low, message_low, rows}
use Rattle.log_tests.proofs.Plain.Growing.{ends_low, grown, hold_plain, hold_shows, pad_plain, pad_shows, put_plain, put_shows}
use Rattle.log_tests.proofs.Plain.Ending.{abort_shows, claim_there, commit_plain, commit_shows, ended}

abbrev pub parts : Inside → Plain
parts l = record {
  identity = record { geometry = l.geometry; session = l.session; stream = l.stream };
  start = l.start;
  tail = l.tail;
  active = l.active;
  shares = l.shares;
  additions = l.additions.items;
  bytes = l.bytes.items;
  held = l.held;
}

-- ---- an addition more

abbrev made : Plain → ℕ → ℕ → ℕ → List Addition → List ℕ → List (Option PlacedClaim) → Plain
made p by n m xs row later = record p { tail = p.tail + n; shares = slice_set p.shares by (slice_index p.shares by + m); additions = xs; bytes = row; held = later }

made_is : (p : Plain) (by : ℕ) (a : Addition) (n m k : ℕ) (xs : List Addition) (row more : List ℕ) (later held : List (Option PlacedClaim)) → n ≡ k → m ≡ k → xs ≡ p.additions ++ a ∷ [] → row ≡ more → later ≡ held → made p by n m xs row later ≡ grown p by a k more held
made_is p by a n m k xs row more later held d e f g h = (λ j. made p by (d j) (e j) (f j) (g j) (h j))

-- there is room for one more
pub spare : (p : Plain) → IsPlain p → (count room : ℕ) → count ≡ length p.additions → p.identity.geometry.term_length / 32 ≤ room → p.tail < p.start + p.identity.geometry.term_length → count < room
spare p is count room same reserved below =
    let r = rows p is in let u = power_unit p.identity.geometry.term_length is.whole.legal.geometry.term.power is.whole.legal.geometry.term.least in
    omega (arith, r, u, same, reserved, below)

pub tail_low : (p : Plain) → IsPlain p → (n : ℕ) → case_of (stream_of p) n ≡ Fits → p.tail < p.start + p.identity.geometry.term_length
tail_low p is n fits = let b : p.tail < p.start + p.identity.geometry.term_length / 2 = (has_room (stream_of p) n fits).below in omega (arith, b)

-- as the new parts are, and what they show
abbrev Comes : Plain → Stream → Type 0
Comes q s = IsPlain q × (stream_of q ≡ s)

pub pads : (p : Plain) (now : Stream) → stream_of p ≡ now → IsPlain p → (by rest : ℕ) → by < 8 → rest ≡ room now → 0 < rest → now.tail + rest ≤ now.start + term_of now → (n m : ℕ) (xs : List Addition) → n ≡ rest → m ≡ rest
    → xs ≡ p.additions ++ record { start = p.tail; owner = by; size = rest; content = content.Padding } ∷ [] → Comes (made p by n m xs p.bytes p.held) (with_padding now by rest)
pads p now view is by rest low rest_is some bound n m xs d e f =
    let r = subst (λ (s : Stream). rest ≡ room s) (sym view) rest_is in
    let b = subst (λ (s : Stream). s.tail + rest ≤ s.start + term_of s) (sym view) bound in
    let same = made_is p by (record { start = p.tail; owner = by; size = rest; content = content.Padding }) n m rest xs p.bytes p.bytes p.held p.held d e f refl refl in
    (subst IsPlain (sym same) (pad_plain p is by low rest r some b), ap stream_of same ∙ pad_shows p is by low rest r some b ∙ ap (λ (s : Stream). with_padding s by rest) view)

pub puts : (p : Plain) (now : Stream) → stream_of p ≡ now → IsPlain p → (by : ℕ) (message : List ℕ) → by < 8 → length message ≤ max_message now.identity.geometry → case_of now (length message) ≡ Fits → (n at : ℕ) (xs : List Addition) (row : List ℕ)
    → n ≡ framed_length p.identity.geometry (length message) → at ≡ length p.bytes → xs ≡ p.additions ++ record { start = p.tail; owner = by; size = length message; content = content.Message at } ∷ [] → row ≡ p.bytes ++ message
    → Comes (made p by n n xs row p.held) (with_message now by message)
puts p now view is by message low short fits n at xs row d at_is f g =
    let s = subst (λ (s : Stream). length message ≤ max_message s.identity.geometry) (sym view) short in
    let t = subst (λ (s : Stream). case_of s (length message) ≡ Fits) (sym view) fits in
    let items = f ∙ ap (λ (k : ℕ). p.additions ++ record { start = p.tail; owner = by; size = length message; content = content.Message k } ∷ []) at_is in
    let same = made_is p by (record { start = p.tail; owner = by; size = length message; content = content.Message (length p.bytes) }) n n (framed_length p.identity.geometry (length message)) xs row (p.bytes ++ message) p.held p.held d d items g refl in
    (subst IsPlain (sym same) (put_plain p is by low message s t), ap stream_of same ∙ put_shows p is by low message s t ∙ ap (λ (s : Stream). with_message s by message) view)

pub holds : (p : Plain) (now : Stream) → stream_of p ≡ now → IsPlain p → (by size : ℕ) → by < 8 → size ≤ max_payload now.identity.geometry → case_of now size ≡ Fits → (n place : ℕ) (xs : List Addition)
    → n ≡ framed_length p.identity.geometry size → place ≡ length p.additions → xs ≡ p.additions ++ record { start = p.tail; owner = by; size = size; content = content.Open } ∷ []
    → Comes (made p by n n xs p.bytes (slice_set p.held by (Some (record { place = place; start = p.tail; size = size })))) (with_claim now by size)
holds p now view is by size low short fits n place xs d at_is f =
    let s = subst (λ (s : Stream). size ≤ max_payload s.identity.geometry) (sym view) short in
    let t = subst (λ (s : Stream). case_of s size ≡ Fits) (sym view) fits in
    let later = ap (λ (k : ℕ). slice_set p.held by (Some (record { place = k; start = p.tail; size = size }))) at_is in
    let same = made_is p by (record { start = p.tail; owner = by; size = size; content = content.Open }) n n (framed_length p.identity.geometry size) xs p.bytes p.bytes
    (slice_set p.held by (Some (record { place = place; start = p.tail; size = size }))) (slice_set p.held by (Some (record { place = length p.additions; start = p.tail; size = size }))) d d f refl later in
    (subst IsPlain (sym same) (hold_plain p is by low size s t), ap stream_of same ∙ hold_shows p is by low size s t ∙ ap (λ (s : Stream). with_claim s by size) view)

-- ---- bytes more

pub extended : {T E : Type 0} (r : Result T E) (old new whole : List ℕ) → IsOk r → new ≡ cond (is_ok r) whole old → new ≡ whole
extended r old new whole ok e = e ∙ cond-true (is_ok r) whole old ok

-- a message that fits has room among the bytes
pub message_fits : (p : Plain) (now : Stream) → stream_of p ≡ now → IsPlain p → (message : List ℕ) → length message ≤ max_message now.identity.geometry → case_of now (length message) ≡ Fits → (count reserved : ℕ) → count ≡ length p.bytes → p.identity.geometry.term_length ≤ reserved
    → count + length message ≤ reserved
message_fits p now view is message short fits count reserved same enough =
    let s = subst (λ (s : Stream). length message ≤ max_message s.identity.geometry) (sym view) short in
    let t = subst (λ (s : Stream). case_of s (length message) ≡ Fits) (sym view) fits in
    let ends = ends_low p is (length message) s (has_room (stream_of p) (length message) t).below in
    let low = message_low p.identity.geometry (length message) is.whole.legal.geometry in
    let framed = covers_framed p.identity.geometry (length message) is.whole.legal.geometry in
    let b = bytes_low p is in omega (arith, b, same, enough, ends, low, framed)

-- ---- an open claim

pub held_there : (held : List (Option PlacedClaim)) (by : ℕ) (h : PlacedClaim) → slice_index_or held by None ≡ Some h → slice_get held by ≡ Some (Some h)
held_there [] by h e = absurd (cc)
held_there (x ∷ held) zero h e = let same : x ≡ Some h = e in ap Some same
held_there (x ∷ held) (suc by) h e = held_there held by h e

module _ (p : Plain) (now : Stream) (view : stream_of p ≡ now) (is : IsPlain p) (by : ℕ) (low : by < 8) (h : PlacedClaim) (at : slice_get p.held by ≡ Some (Some h)) (end : ℕ) (end_is : end ≡ h.start + aligned (h.size + 32)) where
  there : claim_by now by ≡ Some (record { start = h.start; size = h.size })
  there = ap (λ (s : Stream). claim_by s by) (sym view) ∙ claim_there p is by low h at

  pub has_size : (n : ℕ) → option_map (λ (c : OpenClaim). c.size) (claim_by now by) ≡ Some n → n ≡ h.size
  has_size n e = let same : Some h.size ≡ Some n = sym (ap (λ (c : Option OpenClaim). option_map (λ (d : OpenClaim). d.size) c) there) ∙ e in let one : h.size ≡ n = cc in sym one

  pub commits : (payload : List ℕ) → length payload ≡ h.size → (place : ℕ) (row : List ℕ) → place ≡ length p.bytes → row ≡ p.bytes ++ payload
      → IsPlain (ended p by h (record { start = h.start; owner = by; size = h.size; content = content.Message place }) row) × Commits now by payload end (stream_of (ended p by h (record { start = h.start; owner = by; size = h.size; content = content.Message place }) row))
  commits payload size place row place_is row_is =
      let same : ended p by h (record { start = h.start; owner = by; size = h.size; content = content.Message place }) row ≡ ended p by h (record { start = h.start; owner = by; size = h.size; content = content.Message (length p.bytes) }) (p.bytes ++ payload) =
      (λ j. ended p by h (record { start = h.start; owner = by; size = h.size; content = content.Message (place_is j) }) (row_is j)) in (
        subst IsPlain (sym same) (commit_plain p is by low h at payload size),
        record {
          claim = record { start = h.start; size = h.size };
          open_claim = there;
          ends = end_is;
          after = ap stream_of same ∙ commit_shows p is by low h at payload size ∙ ap (λ (s : Stream). with_commit s by (record { start = h.start; size = h.size }) payload) view;
        },
      )

  pub aborts : Aborts now by end (stream_of (ended p by h (record { start = h.start; owner = by; size = h.size + 32; content = content.Padding }) p.bytes))
  aborts = record {
    claim = record { start = h.start; size = h.size };
    open_claim = there;
    ends = end_is;
    after = abort_shows p is by low h at ∙ ap (λ (s : Stream). with_abort s by (record { start = h.start; size = h.size })) view;
  }

-- a commit has room among the bytes
pub commit_fits : (p : Plain) → IsPlain p → (by : ℕ) → by < 8 → (h : PlacedClaim) → slice_get p.held by ≡ Some (Some h) → (payload : List ℕ) → length payload ≡ h.size → (count room : ℕ) → count ≡ length p.bytes → p.identity.geometry.term_length ≤ room → count + length payload ≤ room
commit_fits p is by low h at payload size count room same reserved =
    let b = bytes_low (ended p by h (record { start = h.start; owner = by; size = h.size; content = content.Message (length p.bytes) }) (p.bytes ++ payload)) (commit_plain p is by low h at payload size) in
    let l = length-append p.bytes payload in let bound = is.bound in
    omega (arith, b, l, same, reserved, bound)
