-- Packets that get the next numbers, one after the other.
use Rattle.std.proofs.Common.{◌≡◌, ℕ, zero, suc, ◌+◌, ◌<◌, ◌≤◌, List, [], ◌∷◌, ◌++◌, length, take, None, Some, refl, sym, ap, ◌∙◌, arith, append-nil, append_assoc, length-append}
use Rattle.std.specs.Prelude.{slice_get}
use Rattle.std.proofs.lemmas.List.{take_all}
use Rattle.script_meaning.specs.Answers.{or_nothing, packet_lines}
use Rattle.script_meaning.specs.LineContents.{Packet, LineContent}

lines_snoc : (k : ℕ) (xs : List (List ℕ)) (b : List ℕ) → packet_lines k (xs ++ b ∷ []) ≡ packet_lines k xs ++ Packet (k + length xs) b ∷ []
lines_snoc k [] b = ap (λ n. Packet n b ∷ []) (omega arith)
lines_snoc k (x ∷ xs) b = ap (λ ls. Packet k x ∷ ls) (lines_snoc (suc k) xs b ∙ ap (λ n. packet_lines (suc k) xs ++ Packet n b ∷ []) (omega arith))

take_one : (xs : List (List ℕ)) (i : ℕ) (b : List ℕ) → slice_get xs i ≡ Some b → take (suc i) xs ≡ take i xs ++ b ∷ []
take_one [] i b h = absurd (cc)
take_one (x ∷ xs) zero b h = let same : x ≡ b = cc in ap (λ y. y ∷ []) same
take_one (x ∷ xs) (suc i) b h = ap (λ ys. x ∷ ys) (take_one xs i b h)

pub none_past : (xs : List (List ℕ)) (i : ℕ) → slice_get xs i ≡ None → length xs ≤ i
none_past [] i e = omega arith
none_past (x ∷ xs) zero e = absurd (cc)
none_past (x ∷ xs) (suc i) e = omega (arith, none_past xs i e)

-- the packets, and the lines, after the first so many
pub record Given (old new all : List (List ℕ)) (before after : List LineContent) (i : ℕ) : Type 0 where
  pub packets : new ≡ old ++ take i all
  pub lines : after ≡ before ++ packet_lines (length old) (take i all)

pub given_none : (old all : List (List ℕ)) (before : List LineContent) → Given old old all before before 0
given_none old all before = record { packets = sym (append-nil old); lines = sym (append-nil before) }

pub given_next : (old mid new all : List (List ℕ)) (before between after : List LineContent) (i : ℕ) (b : List ℕ) → Given old mid all before between i → slice_get all i ≡ Some b → new ≡ mid ++ b ∷ [] → after ≡ between ++ Packet (length mid) b ∷ [] → Given old new all before after (i + 1)
given_next old mid new all before between after i b h found packets lines =
    let next : i + 1 ≡ suc i = omega arith in
    let more : take (i + 1) all ≡ take i all ++ b ∷ [] = ap (λ k. take k all) next ∙ take_one all i b found in
    let long : length mid ≡ length old + length (take i all) = ap length h.packets ∙ length-append old (take i all) in
    record {
      packets = packets ∙ ap (λ xs. xs ++ b ∷ []) h.packets ∙ append_assoc old (take i all) (b ∷ []) ∙ ap (λ xs. old ++ xs) (sym more);
      lines =
          lines
          ∙ ap (λ ls. ls ++ Packet (length mid) b ∷ []) h.lines
          ∙ append_assoc before (packet_lines (length old) (take i all)) (Packet (length mid) b ∷ [])
          ∙ ap (λ n. before ++ (packet_lines (length old) (take i all) ++ Packet n b ∷ [])) long
          ∙ ap (λ ls. before ++ ls) (sym (lines_snoc (length old) (take i all) b) ∙ ap (packet_lines (length old)) (sym more));
    }

pub given_nothing : (old new all : List (List ℕ)) (before after : List LineContent) (i : ℕ) → i < length all → slice_get all i ≡ None → Given old new all before after (i + 1)
given_nothing old new all before after i low e = absurd (omega (arith, low, none_past all i e))

pub all_given : (old new all : List (List ℕ)) (before after : List LineContent) (i : ℕ) → Given old new all before after i → length all ≤ i → (new ≡ old ++ all) × (after ≡ before ++ packet_lines (length old) all)
all_given old new all before after i h high =
    let whole = take_all i all high in
    (h.packets ∙ ap (λ xs. old ++ xs) whole, h.lines ∙ ap (λ xs. before ++ packet_lines (length old) xs) whole)

pub not_nothing : (k : ℕ) (ds : List (List ℕ)) → 0 < length ds → or_nothing (packet_lines k ds) ≡ packet_lines k ds
not_nothing k [] h = absurd (omega (arith, h))
not_nothing k (d ∷ ds) h = refl
