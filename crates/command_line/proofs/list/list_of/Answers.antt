use Rattle.std.proofs.Common.{◌≡◌, ◌∙◌, ℕ, List, [], ◌++◌, Bor, Option, Some, None, map, ap, sym}
use Rattle.std.specs.Prelude.{option_map, unwrap_or}
use Rattle.clap.specs.Matches.{found_of}
use Rattle.clap.proofs.WalkLemmas.{raw_values-rows}
use Rattle.command_line.proofs.list.list_of.Goals as goal

abbrev Texts : Type 0
Texts = List (Bor (List ℕ))

abbrev told_in : Bor Texts → List (List ℕ)
told_in s = map (λ v. v.now) s.now

some_told : (found : Option (Bor Texts)) (all : Option (List (List ℕ))) (s : Bor Texts) (items : Texts) → option_map told_in found ≡ all → found ≡ Some s → items ≡ s.now → map (λ t. t.now) items ≡ unwrap_or all []
some_told found all s items told is same = ap (map (λ (t : Bor (List ℕ)). t.now)) same ∙ ap (λ o. unwrap_or o []) (ap (option_map told_in) (sym is) ∙ told)

none_told : (found : Option (Bor Texts)) (all : Option (List (List ℕ))) (items : Texts) → option_map told_in found ≡ all → found ≡ None → items ≡ [] → map (λ t. t.now) items ≡ unwrap_or all []
none_told found all items told is same = ap (map (λ (t : Bor (List ℕ)). t.now)) same ∙ ap (λ o. unwrap_or o []) (ap (option_map told_in) (sym is) ∙ told)

pub returns-in_default : goal.returns-in_default
returns-in_default c = none_told c.get_strs.result _ c.new-texts.result.items (c.get_strs.ensures ∙ raw_values-rows (found_of c.args.matches.now) c.args.name.now) c.in_default.is c.new-texts.ensures.items

pub returns : goal.returns
returns c = some_told c.get_strs.result _ c.in-Some.found c.extend_from_slice.new.self.items (c.get_strs.ensures ∙ raw_values-rows (found_of c.args.matches.now) c.args.name.now) c.in-Some.is (c.in_ok-extend_from_slice.ensures.items ∙ ap (λ (xs : Texts). xs ++ c.in-Some.found.now) c.new-texts.ensures.items)
