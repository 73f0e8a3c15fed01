-- Entries that are claims of passes, one for one, and the tail that they end at.
use Rattle.std.proofs.Common.{◌≡◌, inl, inr, ⊎_elim, ℕ, ◌+◌, List, [], ◌∷◌, ◌++◌, map, sym, refl, ap, ◌∙◌, arith}
use Rattle.atomic_table.specs.Table.{State}
use Rattle.theory.specs.Entry.{Entry, length_of}
use Rattle.theory.specs.Placed.{Among}
use Rattle.theory.specs.Position.{span}
use Rattle.theory.specs.Tiling.{Tiles}
use Rattle.log_rule.specs.declared.claims.view.View.{View}
use Rattle.log_rule.specs.declared.rule.Key.{Key}
use Rattle.log_rule.specs.Claims.Plays.{pass_in}
use Rattle.log_rule.specs.Claims.Rule.{weight}
use Rattle.log_rule.specs.Claims.Sums.{total}
use Rattle.log_rule.specs.Says.{Says, tail_shown}
use Rattle.log_rule.specs.Table.{LogRuled}
use Rattle.log_rule.proofs.Claimed.Totals.{extent_of}
use Rattle.log_rule.proofs.Saying.{rule_says}
use Rattle.threads_meaning.specs.Modelled.{AreAs, IsAs}

-- what is so of both is alike in sum
pub alike_total : (h : Entry → ℕ) → ((a e : Entry) → IsAs a e → h a ≡ h e) → (cs es : List Entry) → AreAs cs es → total h cs ≡ total h es
alike_total h same [] [] a = refl
alike_total h same [] (e ∷ es) a = absurd a
alike_total h same (c ∷ cs) [] a = absurd a
alike_total h same (c ∷ cs) (e ∷ es) a = let one = same c e a.0 in let r = alike_total h same cs es a.1 in omega arith

-- a claim's entry
pub record HasEntry (c : Entry) (es : List Entry) : Type 0 where
  pub entry : Entry
  pub among : Among entry es
  pub is : IsAs c entry

pub entry_for : (c : Entry) (cs es : List Entry) → AreAs cs es → Among c cs → HasEntry c es
entry_for c [] es a i = absurd i
entry_for c (d ∷ cs) [] a i = absurd a
entry_for c (d ∷ cs) (e ∷ es) a (inl same) = record {
  entry = e;
  among = inl refl;
  is = (let s : d ≡ c = sym same in record {
    start = a.0.start ∙ ap (λ (x : Entry). x.start) s;
    owner = a.0.owner ∙ ap (λ (x : Entry). x.owner) s;
    cuts = a.0.cuts ∙ ap (λ (x : Entry). x.cuts) s;
    padding = ⊎_elim (λ e. inl (e ∙ ap (λ (x : Entry). x.padding) s)) (λ e. inr record { message = ap (λ (x : Entry). x.padding) same ∙ e.message; padding = e.padding; frames = e.frames }) a.0.padding;
  });
}
entry_for c (d ∷ cs) (e ∷ es) a (inr i) = let r = entry_for c cs es a.1 i in record { entry = r.entry; among = inr r.among; is = r.is }

pub alike_push : (cs es : List Entry) (c e : Entry) → AreAs cs es → IsAs c e → AreAs (cs ++ c ∷ []) (es ++ e ∷ [])
alike_push [] [] c e a is = (is, tt)
alike_push [] (x ∷ es) c e a is = absurd a
alike_push (d ∷ cs) [] c e a is = absurd a
alike_push (d ∷ cs) (x ∷ es) c e a is = (a.0, alike_push cs es c e a.1 is)

-- each of the entries is changed, and stays one of its claim
pub alike_map : (g : Entry → Entry) (cs es : List Entry) → AreAs cs es → ((c e : Entry) → Among e es → IsAs c e → IsAs c (g e)) → AreAs cs (map g es)
alike_map g [] [] a stays = tt
alike_map g [] (e ∷ es) a stays = absurd a
alike_map g (c ∷ cs) [] a stays = absurd a
alike_map g (c ∷ cs) (e ∷ es) a stays = (stays c e (inl refl) a.0, alike_map g cs es a.1 (λ d x i. stays d x (inr i)))

-- both are changed
pub alike_both : (f g : Entry → Entry) (cs es : List Entry) → AreAs cs es → ((c e : Entry) → IsAs c e → IsAs (f c) (g e)) → AreAs (map f cs) (map g es)
alike_both f g [] [] a stays = tt
alike_both f g [] (e ∷ es) a stays = absurd a
alike_both f g (c ∷ cs) [] a stays = absurd a
alike_both f g (c ∷ cs) (e ∷ es) a stays = (stays c e a.0, alike_both f g cs es a.1 stays)

alike_length : (c e : Entry) → IsAs c e → length_of c ≡ length_of e
alike_length c e is = ap span (sym is.cuts)

-- the rule's tail is theirs
pub tail_ruled : (key : Key) (s : State (Unit {0}) View) → LogRuled key s → (log es : List Entry) (start tail : ℕ) → start ≡ key.start → ((h : Entry → ℕ) → total (weight h) (map pass_in s.views) ≡ total h log) → AreAs log es → Tiles key.identity.geometry.term_length start tail es
    → tail ≡ tail_shown key.identity.geometry s.words
tail_ruled key s q log es start tail from fair alike tiles =
    let says : Says key s.words (map pass_in s.views) = rule_says key s q in
    let rule = extent_of key.identity.geometry.term_length key.start (tail_shown key.identity.geometry s.words) says.log says.tiles in
    let mine = extent_of key.identity.geometry.term_length start tail es tiles in
    let same : total length_of says.log ≡ total length_of es = sym (says.claimed length_of) ∙ fair length_of ∙ alike_total length_of alike_length log es alike in
    sym mine ∙ (λ i. from i + sym same i) ∙ rule
