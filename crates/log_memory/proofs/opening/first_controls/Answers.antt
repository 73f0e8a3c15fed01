use Rattle.std.proofs.Common.{◌≡◌, ℕ, ◌+◌, ◌/◌, ◌%◌, sym, ap, ◌∙◌, subst, arith, Fits, w32}
use Rattle.std.specs.Int.{cast_signed, cast_unsigned}
use Rattle.std.proofs.lemmas.Int.{to_z-of_z}
use Rattle.theory.specs.Position.{Geometry, id_of}
use Rattle.theory.specs.Words.{tail_word}
use Rattle.log_rule.specs.Claims.Packs.{tail_place}
use Rattle.publication.proofs.Packed.{id_fits}
use Rattle.log_memory.proofs.Openings.{first_low, same_sets}
use Rattle.log_memory.proofs.opening.first_controls.Goals as goal

pub overflow_add-count : goal.overflow_add-count
overflow_add-count c = let low = first_low c.args.key.now.identity.geometry c.args.key.now.start c.requires.below in let is : c.from-length.result ≡ c.args.key.now.identity.geometry.term_length = c.from-length.ensures ∙ c.term_length.ensures.value ∙ ap (λ (g : Geometry). g.term_length) c.geometry-geometry.ensures.value in
    subst (λ (n : ℕ). Fits w32 (c.args.key.now.start / n + 1)) (sym is) record { fits = omega arith }

pub overflow_add-count-2 : goal.overflow_add-count-2
overflow_add-count-2 c = let low = first_low c.args.key.now.identity.geometry c.args.key.now.start c.requires.below in let is : c.from-length.result ≡ c.args.key.now.identity.geometry.term_length = c.from-length.ensures ∙ c.term_length.ensures.value ∙ ap (λ (g : Geometry). g.term_length) c.geometry-geometry.ensures.value in
    subst (λ (n : ℕ). Fits w32 (c.args.key.now.start / n + 2)) (sym is) record { fits = omega arith }

pub returns : goal.returns
returns c =
    let key = c.args.key.now in let g : Geometry = key.identity.geometry in let n : ℕ = key.start / g.term_length in
    let is : c.from-length.result ≡ g.term_length = c.from-length.ensures ∙ c.term_length.ensures.value ∙ ap (λ (x : Geometry). x.term_length) c.geometry-geometry.ensures.value in
    let count : key.start / c.from-length.result ≡ n = ap (λ (z : ℕ). key.start / z) is in
    let id_is : c.id_of-id.result ≡ id_of g n = c.id_of-id.ensures ∙ (λ j. id_of (c.geometry-geometry.ensures.value j) (count j)) in
    same_sets (208 + c.args.units) key.start _ _ _ _ _ _ _ _ _ _ _ _ _ _ _
    (c.in_ok-words.ensures.items_if_clones_equal (λ y h. h))
    (c.from.ensures ∙ count)
    (c.place_of.ensures.is ∙ ap tail_place count)
    (c.place_of-2.ensures.is ∙ ap (λ (z : ℕ). tail_place (z + 1)) count)
    (c.place_of-3.ensures.is ∙ ap (λ (z : ℕ). tail_place (z + 2)) count)
    (c.packed.ensures ∙ (λ j. tail_word (cast_signed w32 (cast_unsigned w32 (id_is j))) (key.start % is j)) ∙ ap (λ z. tail_word z (key.start % g.term_length)) (to_z-of_z w32 (id_of g n) (id_fits g n)))
    (c.packed-2.ensures ∙ ap (λ z. tail_word (cast_signed w32 ((cast_unsigned w32 z + 4294967294) % 4294967296)) 0) id_is)
    (c.packed-3.ensures ∙ ap (λ z. tail_word (cast_signed w32 ((cast_unsigned w32 z + 4294967295) % 4294967296)) 0) id_is)
