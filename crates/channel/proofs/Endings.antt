-- Parts one after the other.
use Rattle.std.proofs.Common.{◌≡◌, ℕ, false, List, [], ◌∷◌, ◌++◌, sym, ap, subst, ◌∙◌}
use Rattle.channel.specs.declared.parameter.Parameter.{Parameter}
use Rattle.channel.specs.declared.parameter.Setting.{Setting}
use Rattle.channel.specs.declared.settings.Settings.{Settings}
use Rattle.channel.specs.Settings.{name_of, parameter_of, is_set, with_setting, Says, Sets, IsValueOf}

-- one part more
pub sets_more : (s t : Settings) (before : List (List ℕ)) (part : List ℕ) (setting : Setting) → Sets s before t → Says part setting → is_set t (parameter_of setting) ≡ false → Sets s (before ++ part ∷ []) (with_setting t setting)
sets_more s t [] part setting h says free = (setting, says, subst (λ x. is_set x (parameter_of setting) ≡ false) h free, ap (λ x. with_setting x setting) h)
sets_more s t (p ∷ before) part setting (first, says_first, free_first, h) says free = (first, says_first, free_first, sets_more (with_setting s first) t before part setting h says free)

-- a part of this name and value
pub says_it : (p : Parameter) (part name value : List ℕ) (setting : Setting) → part ≡ name ++ 61 ∷ value → name ≡ name_of p → parameter_of setting ≡ p → IsValueOf value setting → Says part setting
says_it p part name value setting e named same is = record { value = value; parts = e ∙ ap (λ (n : List ℕ). n ++ 61 ∷ value) (named ∙ ap name_of (sym same)); is = is }
