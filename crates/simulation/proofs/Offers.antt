-- Offers and claims of a publisher on a log in one hand.
use Rattle.std.proofs.Common.{◌≡◌, ℕ, suc, ◌<◌, Bool, true, false, List, [], ◌∷◌, length, Option, None, Some, inl, inr, refl, sym, ap, ◌∙◌, subst, get_or, rules, Fits, w8}
use Rattle.std.specs.List.{AllByRecursion}
use Rattle.std.specs.Option.{is_some, option_map}
use Rattle.one_hand.specs.Stream.{OpenClaim, Stream, after_offer, answer_of, claim_by}
use Rattle.script_meaning.specs.Answers.{MayOffer, Offered, with_log}
use Rattle.script_meaning.specs.LineContents.{Bad, LineContent}
use Rattle.script_meaning.specs.ScriptState.{ScriptState}
use Rattle.simulation.specs.Reading.{LeadsTo, MayBeOffered}

pub some_claim : (o : Option OpenClaim) (n : Option ℕ) (b : Bool) → n ≡ option_map (λ (c : OpenClaim). c.size) o → b ≡ is_some n → b ≡ true → (c : OpenClaim) × (o ≡ Some c)
some_claim (Some c) n b e f t = (c, refl)
some_claim None n b e f t = absurd (let g : is_some (option_map (λ (c : OpenClaim). c.size) None) ≡ true = ap is_some (sym e) ∙ sym f ∙ t in cc)

pub no_claim : (o : Option OpenClaim) (n : Option ℕ) (b : Bool) → n ≡ option_map (λ (c : OpenClaim). c.size) o → b ≡ is_some n → b ≡ false → o ≡ None
no_claim (Some c) n b e f t = absurd (let g : is_some (option_map (λ (c : OpenClaim). c.size) (Some c)) ≡ false = ap is_some (sym e) ∙ sym f ∙ t in cc)
no_claim None n b e f t = refl

-- the bytes of a slice, one by one
pub all_bytes : (xs : List ℕ) → ((i : ℕ) → Fits w8 (get_or xs i 0)) → AllByRecursion (λ b. b < 256) xs
all_bytes [] h = tt
all_bytes (x ∷ xs) h = let fits : Fits w8 x = h 0 in (search rules, all_bytes xs (λ i. h (suc i)))

pub has_claim : (l : Stream) (by : ℕ) (message : List ℕ) → (c : OpenClaim) × (claim_by l by ≡ Some c) → LeadsTo (λ s lines t. MayBeOffered s by message lines t) l Bad l
has_claim l by message claim = λ s e. inl ((claim.0, ap (λ x. claim_by x by) e ∙ claim.1), (refl, ap (with_log s) (sym e)))

pub offers : (l m : Stream) (by : ℕ) (message : List ℕ) (line : LineContent) → MayOffer l by message → claim_by l by ≡ None → ((s t : ScriptState) → t ≡ with_log s (after_offer s.log by message) → Offered s by message (answer_of l (length message)) (line ∷ []) t) → m ≡ after_offer l by message → LeadsTo (λ s lines t. MayBeOffered s by message lines t) l line m
offers l m by message line may none shows after = λ s e. inr (
  subst (λ x. MayOffer x by message) (sym e) may,
  ap (λ x. claim_by x by) e ∙ none,
  subst (λ x. Offered s by message (answer_of x (length message)) (line ∷ []) (with_log s m)) (sym e) (shows s (with_log s m) (ap (with_log s) (after ∙ ap (λ x. after_offer x by message) (sym e)))),
)
