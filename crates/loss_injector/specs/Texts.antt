-- What a user reads of refused rates.
use Rattle.std.specs.Prelude.{ℕ, List, codes}

abbrev pub rates_text : List ℕ
rates_text = codes "E1 rates"
