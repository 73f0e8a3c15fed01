use Rattle.std.proofs.Common.{◌≡◌, ℕ, sym, ap, ◌∙◌, [], ◌∷◌, ◌++◌, rules}
use Rattle.std.specs.Int.{w32, w64, cast_unsigned, from_le_bytes, to_le_bytes}
use Rattle.std.specs.Prelude.{FitsSigned}
use Rattle.std.proofs.lemmas.Int.{to_z-of_z}
use Rattle.theory.specs.Position.{Geometry, id_of, place_of}
use Rattle.position.proofs.Fields.{header_is}
use Rattle.position.proofs.frame_words.header_words.Goals as goal

pub returns-clause-words : goal.returns-clause-words
returns-clause-words c =
    let geometry : c.geometry.result ≡ c.args.identity.now.geometry = c.geometry.ensures.value in
    let offset : c.term_of-place.result.offset ≡ (place_of c.args.identity.now.geometry c.args.start).offset = c.term_of-place.ensures.offset ∙ ap (λ (h : Geometry). (place_of h c.args.start).offset) geometry in
    let id_fits : FitsSigned w32 c.term_of-place.result.term_id = search rules in
    let session_fits : FitsSigned w32 c.session.result = search rules in
    let stream_fits : FitsSigned w32 c.stream.result = search rules in
    let id : c.cast_unsigned.result ≡ cast_unsigned w32 (id_of c.args.identity.now.geometry (place_of c.args.identity.now.geometry c.args.start).count) = c.cast_unsigned.ensures ∙ ap (cast_unsigned w32) (to_z-of_z w32 c.term_of-place.result.term_id id_fits) ∙ ap (cast_unsigned w32) (c.term_of-place.ensures.term_id ∙ ap (λ (h : Geometry). id_of h (place_of h c.args.start).count) geometry) in
    let session : c.cast_unsigned-session.result ≡ cast_unsigned w32 c.args.identity.now.session = c.cast_unsigned-session.ensures ∙ ap (cast_unsigned w32) (to_z-of_z w32 c.session.result session_fits) ∙ ap (cast_unsigned w32) c.session.ensures in
    let stream : c.cast_unsigned-stream.result ≡ cast_unsigned w32 c.args.identity.now.stream = c.cast_unsigned-stream.ensures ∙ ap (cast_unsigned w32) (to_z-of_z w32 c.stream.result stream_fits) ∙ ap (cast_unsigned w32) c.stream.ensures in
    header_is c.args.identity.now c.args.start c.term_of-place.result.offset c.cast_unsigned-session.result c.cast_unsigned-stream.result c.cast_unsigned.result offset session stream id
    ∙ ap (λ (n : ℕ). n ∷ from_le_bytes w64 (to_le_bytes w32 c.cast_unsigned-stream.result ++ to_le_bytes w32 c.cast_unsigned.result) ∷ 0 ∷ []) (sym c.pair_word-second.ensures) ∙ ap (λ (n : ℕ). c.pair_word-second.result ∷ n ∷ 0 ∷ []) (sym c.pair_word-third.ensures)
