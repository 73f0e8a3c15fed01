-- Lines of an input that are decoded one after the other.
use Rattle.std.proofs.Common.{◌≡◌, ◌∙◌, ℕ, List, [], ◌∷◌, ◌++◌, Option, inl, inr, true, sym, ap, subst, append-nil}
use Rattle.std.specs.List.{flat_map}
use Rattle.std.specs.Prelude.{OnOk, Result, Ok, Err, false}
use Rattle.commands.specs.declared.decoding.input.LineFault.{LineFault}
use Rattle.std.specs.Io.KnownBytes.{Appends, Consumes, IsAtEnd, Keeps}
use Rattle.std.proofs.KnownBytes.{Appends-kept, Appends-nil, Appends-trans, Consumes-nil, Consumes-trans}
use Rattle.std.proofs.lemmas.Grind.{flat_map-append}
use Rattle.theory.specs.Wire.{Wire}
use Rattle.messages.specs.Inputs.{TakesLine}
use Rattle.commands.specs.Decoding.{SaysFrames}
use Rattle.commands.specs.FrameLines.{frame_lines}
use Rattle.commands.specs.DecodedInput.{Decoded, DecodesInput, DecodesLine, SayAll, TakesLines}

-- nothing is decoded yet
pub decoded_none : (a b : Option (List ℕ)) → Decoded a a b b
decoded_none a b = record { lines = []; datagrams = []; taken = Consumes-nil a; said = tt; printed = Appends-nil b }

-- nothing more is taken
pub taken_no_more : (a b c : Option (List ℕ)) (lines : List (List ℕ)) → TakesLines a lines b → Consumes b c [] → TakesLines a lines c
taken_no_more a b c [] taken none = Consumes-trans a b c [] [] taken none
taken_no_more a b c (line ∷ lines) (middle, first, taken) none = (middle, first, taken_no_more middle b c lines taken none)

taken_more : (a b c : Option (List ℕ)) (lines : List (List ℕ)) (line : List ℕ) → TakesLines a lines b → TakesLine b c line → TakesLines a (lines ++ line ∷ []) c
taken_more a b c [] line none (one, inl whole) = (c, (one, inl (Consumes-trans a b c [] _ none whole)), Consumes-nil c)
taken_more a b c [] line none (one, inr (last, end, some)) = (c, (one, inr (Consumes-trans a b c [] _ none last, end, some)), Consumes-nil c)
taken_more a b c (first ∷ lines) line (middle, one, taken) more = (middle, one, taken_more middle b c lines line taken more)

said_more : (lines : List (List ℕ)) (datagrams : List (List Wire)) (line : List ℕ) (frames : List Wire) → SayAll lines datagrams → SaysFrames line frames → SayAll (lines ++ line ∷ []) (datagrams ++ frames ∷ [])
said_more [] [] line frames said one = (one, tt)
said_more [] (d ∷ datagrams) line frames said one = absurd said
said_more (l ∷ lines) [] line frames said one = absurd said
said_more (l ∷ lines) (d ∷ datagrams) line frames (first, said) one = (first, said_more lines datagrams line frames said one)

lines_more : (datagrams : List (List Wire)) (frames : List Wire) → flat_map frame_lines datagrams ++ frame_lines frames ≡ flat_map frame_lines (datagrams ++ frames ∷ [])
lines_more datagrams frames =
    sym (flat_map-append frame_lines datagrams (frames ∷ []) ∙ ap (λ (x : List ℕ). flat_map frame_lines datagrams ++ x) (append-nil (frame_lines frames)))

-- one line more
pub decoded_more : (a b c d e f : Option (List ℕ)) → Decoded a b d e → DecodesLine b c e f true → Decoded a c d f
decoded_more a b c d e f so (line, frames, one, says, more) = record {
  lines = so.lines ++ line ∷ [];
  datagrams = so.datagrams ++ frames ∷ [];
  taken = taken_more a b c so.lines line so.taken one;
  said = said_more so.lines so.datagrams line frames so.said says;
  printed = subst (Appends d f) (lines_more so.datagrams frames) (Appends-trans _ _ _ _ _ so.printed more);
}

-- the input is at its end, and the output was flushed
pub decoded_all : (a b c d e f : Option (List ℕ)) → Decoded a b d e → Consumes b c [] → IsAtEnd c → Keeps e f → DecodesInput a d f
decoded_all a b c d e f so none end kept =
    (c, record { lines = so.lines; datagrams = so.datagrams; taken = taken_no_more a b c so.lines so.taken none; said = so.said; printed = Appends-kept d e f _ so.printed kept }, end)

-- the same of how the flush ended
pub decoded_flushed : (a b c d e f m : Option (List ℕ)) (r : Result (Unit {0}) LineFault) → Decoded a b d e → DecodesLine b c e m false → OnOk r (Keeps m f) → OnOk r (DecodesInput a d f)
decoded_flushed a b c d e f m (Ok done) so (none, end, same) kept = decoded_all a b c d e f so none end (subst (λ (x : Option (List ℕ)). Keeps x f) same kept)
decoded_flushed a b c d e f m (Err fault) so line kept = tt
