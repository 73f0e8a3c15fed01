-- The words of a frame that is committed whole.
use Rattle.std.proofs.Common.{◌≡◌, ℕ, suc, ◌+◌, ◌-◌, ◌/◌, ◌<◌, ◌≤◌, List, [], ◌∷◌, ◌++◌, length, replicate, sym, refl, ap, ◌∙◌, arith}
use Rattle.std.specs.Int.{w64, from_le_bytes}
use Rattle.theory.specs.Bytes.{Identity}
use Rattle.theory.specs.Placed.{Data, Frame, Pad, frame_length}
use Rattle.theory.specs.Position.{aligned}
use Rattle.theory.specs.Wire.{front}
use Rattle.position.specs.Words.{IsLegal, frame_words, header_words, payload_words, words_in}
use Rattle.position.proofs.Wordings.{data_words, pad_words, words_length, words_rest}
use Rattle.publication.specs.Claims.{Fills, HasBlank}
use Rattle.publication.specs.declared.pass.FrameWords.{FrameWords}
use Rattle.publication.specs.declared.pass.Pass.{Pass}
use Rattle.publication.specs.Steps.{blank, frame, with_work}
use Rattle.log_memory.specs.declared.drafts.Draft.{Draft}
use Rattle.log_memory.specs.Drafts.{words_of}
use Rattle.shared_log.specs.Steps.Drafts.{IsOpenDraft}

-- the first word of a data frame, whose length was summed the other way round
pub data_first : (payload : List ℕ) (flags first : ℕ) → first ≡ from_le_bytes w64 (front (length payload + 32) flags 1) → first ≡ from_le_bytes w64 (front (32 + length payload) flags 1)
data_first payload flags first value = let sum : length payload + 32 ≡ 32 + length payload = omega arith in value ∙ ap (λ (n : ℕ). from_le_bytes w64 (front n flags 1)) sum

-- as a draft has them
abbrev pub spelt_by : ℕ → ℕ → ℕ → ℕ → List ℕ → List ℕ
spelt_by bytes first second third payload = first ∷ second ∷ third ∷ 0 ∷ words_in (bytes / 8 - 4) payload

pub data_spelt : (i : Identity) (p flags bytes first a b : ℕ) (payload : List ℕ) → bytes ≡ aligned (32 + length payload) → first ≡ from_le_bytes w64 (front (32 + length payload) flags 1) → header_words i p ≡ a ∷ b ∷ 0 ∷ [] → spelt_by bytes first a b payload ≡ frame_words i p (Data flags payload)
data_spelt i p flags bytes first a b payload whole value header =
    let k : ℕ = (length payload + 7) / 8 in let m : ℕ = aligned (32 + length payload) / 8 - 4 in
    let long : aligned (32 + length payload) / 8 ≡ suc (suc (suc (suc m))) = omega arith in let fits : k ≤ m = omega arith in
    let rest : words_in m payload ≡ payload_words payload ++ replicate (m - length (payload_words payload)) 0 = words_rest k m payload (omega arith) fits ∙ ap (λ (n : ℕ). payload_words payload ++ replicate (m - n) 0) (sym (words_length k payload)) in
    ap (λ (n : ℕ). spelt_by n first a b payload) whole
    ∙ (λ j. value j ∷ a ∷ b ∷ 0 ∷ rest j)
    ∙ ap (λ (hs : List ℕ). from_le_bytes w64 (front (32 + length payload) flags 1) ∷ (hs ++ (payload_words payload ++ replicate (m - length (payload_words payload)) 0))) (sym header)
    ∙ sym (data_words i p flags m payload long fits)

pub pad_spelt : (i : Identity) (p n bytes first a b : ℕ) → 32 ≤ n → bytes ≡ aligned n → first ≡ from_le_bytes w64 (front n 192 0) → header_words i p ≡ a ∷ b ∷ 0 ∷ [] → spelt_by bytes first a b [] ≡ frame_words i p (Pad n)
pad_spelt i p n bytes first a b least whole value header =
    let m : ℕ = aligned n / 8 - 4 in let long : aligned n / 8 ≡ suc (suc (suc (suc m))) = omega arith in
    ap (λ (k : ℕ). spelt_by k first a b []) whole
    ∙ (λ j. value j ∷ a ∷ b ∷ 0 ∷ words_rest 0 m [] (omega arith) (omega arith) j)
    ∙ ap (λ (hs : List ℕ). from_le_bytes w64 (front n 192 0) ∷ (hs ++ ([] ++ replicate (m - 0) 0))) (sym header)
    ∙ sym (pad_words i p n m long)

-- ---- a frame in its open one

pub opens : (i : Identity) (v : Pass) (d : Draft) (f : Frame) → HasBlank v d.start (frame_length f) → d.bytes ≡ aligned (frame_length f) → 0 < frame_length f → 0 < d.first → IsLegal i.geometry f → words_of d ≡ frame_words i d.start f → IsOpenDraft i d v
opens i v d f blank long some first legal spelt = record {
  front = blank.front;
  cut = frame_length f;
  others = blank.behind;
  some = some;
  drafts = blank.parts;
  long = long;
  done = record { first = first; content = f; legal = legal; whole = refl; spelt = spelt };
}

pub fills : (i : Identity) (v w : Pass) (p : ℕ) (ws : List ℕ) (f : Frame) → v.identity ≡ i → 0 < frame_length f → ws ≡ frame_words i p f
    → ((front : List FrameWords) (cut : ℕ) (others : List FrameWords) → 0 < cut → v.work.drafts ≡ front ++ blank p cut ∷ others → w ≡ with_work (v.work.frames ++ frame p cut ws ∷ []) (front ++ others) v) → Fills v p f w
fills i v w p ws f same some spelt told front behind parts =
    let is : ws ≡ frame_words v.identity p f = spelt ∙ ap (λ (j : Identity). frame_words j p f) (sym same) in
    told front (frame_length f) behind some parts ∙ ap (λ (xs : List ℕ). with_work (v.work.frames ++ frame p (frame_length f) xs ∷ []) (front ++ behind) v) is
