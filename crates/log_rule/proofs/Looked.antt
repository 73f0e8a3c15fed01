-- The steps of consumers and of the keeper are looks.
use Rattle.std.proofs.Common.{◌≡◌, ℕ, ◌+◌, ◌*◌, ◌<◌, [], map, length, sym, refl, ap, ◌∙◌, subst, lt_of_not-le, arith}
use mathlib.Core.Logic.{dite}
use native.Mathlib.Decide.{dec_le}
use Rattle.std.specs.Prelude.{slice_index}
use Rattle.std.proofs.lemmas.List.{map-set}
use Rattle.atomic_table.specs.Table.{Allows}
use Rattle.atomic_table.proofs.Lists.{at_map}
use Rattle.publication.specs.declared.pass.Pass.{Pass}
use Rattle.publication.specs.declared.pass.Reading.{Reading}
use Rattle.log_rule.specs.declared.claims.view.View.{View}
use Rattle.log_rule.specs.declared.rule.Key.{Key}
use Rattle.log_rule.specs.Claims.Events.{IsLook}
use Rattle.log_rule.specs.Claims.Packs.{consumer_place, limit_place, slot}
use Rattle.log_rule.specs.Claims.Plays.{Mine, pass_in}
use Rattle.log_rule.specs.Claims.Sure.{LearnsControls}
use Rattle.log_rule.specs.Keepings.{CleansWord, Joins, LearnsLimit, Leaves, Raises, SeesConsumer, keeping, sweeping}
use Rattle.log_rule.specs.Readings.{Consumes, IsConsumer, Looks, Rereads, reading}
use Rattle.log_rule.specs.Lookings.{Looking, OthersAreLooks}
use Rattle.log_rule.specs.Table.{LogRuled}
use Rattle.log_rule.proofs.Claimed.Eventful.{look as looked}
use Rattle.log_rule.proofs.Cleaning.{clean}
use Rattle.log_rule.proofs.Consumers.{look, pass, word}
use Rattle.log_rule.proofs.Joining.{join, leave}
use Rattle.log_rule.proofs.Keeping.{raise, sweep}

-- the pass has the same claims and the same committed frames
record Rests (v w : Pass) : Type 0 where
  claims : w.right.claims ≡ v.right.claims
  frames : w.work.frames ≡ v.work.frames

-- a step that the table allows, and that tells so much, is a look
looking : (key : Key) (id : ℕ) (v : View) (i : ℕ) (f : ℕ → ℕ) (then : ℕ → Mine → Type 0) (told : ℕ → Pass → Type 0)
    → ((slots : ℕ) → Allows (LogRuled key) slots id (v, []) i f then) → ((n : ℕ) (m : Mine) → then n m → told n m.0.pass) → ((n : ℕ) (w : Pass) → told n w → Rests v.pass w) → Looking key id v i f told
looking key id v i f then told go tells rests s r at low =
    let g = go (length s.homes) s r refl at low in let w : View = g.0 in let t = tells (slice_index s.words i) _ g.4 in let k = rests (slice_index s.words i) w.pass t in let q = g.3 in (
      w,
      record { cleaned = q.cleaned; there = q.there; ruled = q.ruled; kept = q.kept; sure = q.sure; numbered = q.numbered },
      t,
      subst (IsLook (map pass_in s.views)) (sym (map-set pass_in s.views id w)) (looked (map pass_in s.views) id v.pass w.pass (at_map pass_in s.views id v at) k.claims k.frames),
    )

rests_by : (v w x : Pass) → w ≡ x → x.right.claims ≡ v.right.claims → x.work.frames ≡ v.work.frames → Rests v w
rests_by v w x e a c = record { claims = ap (λ (y : Pass). y.right.claims) e ∙ a; frames = ap (λ (y : Pass). y.work.frames) e ∙ c }

looks_rests : (v : Pass) (place n : ℕ) (r : Reading) (w : Pass) → IsConsumer v place r → Looks v place n w → Rests v w
looks_rests v place n r w is told = dite (dec_le 1 n)
    (λ pos. let e = ((told r is).found pos).after in rests_by v w _ e refl refl)
    (λ no. let e = ((told r is).none (zero_is n (lt_of_not-le no))).0 in rests_by v w _ e refl refl)
  where
    zero_is : (n : ℕ) → n < 1 → n ≡ 0
    zero_is n lt = omega arith

pub others_are_looks : OthersAreLooks
others_are_looks = record {
  load_here = λ key id v place r is low. looking key id v (slot key.identity.geometry r.position) (λ n. n) (λ n m'. reading (λ v k w. Looks v place k w) (v, []) n m') (λ n w. Looks v.pass place n w)
      (λ slots. look key slots id (v, []) place r is low) (λ n m t. t.3) (λ n w t. looks_rests v.pass place n r w is t);
  load_word = λ key id v place r p i is low. looking key id v (slot key.identity.geometry (p + 8 * i)) (λ n. n) (λ n m'. reading (λ v k w. Rereads v place p i k w) (v, []) n m') (λ n w. Rereads v.pass place p i n w)
      (λ slots. word key slots id (v, []) place r is p i low) (λ n m t. t.3) (λ n w t. rests_by v.pass w v.pass t.after refl refl);
  move = λ key id v place r end is low may. looking key id v (consumer_place r.number) (λ _. end) (λ _ m'. reading (λ v k w. Consumes v place end w) (v, []) 0 m') (λ _ w. Consumes v.pass place end w)
      (λ slots. pass key slots id (v, []) place r is end may low) (λ n m t. t.3) (λ n w t. rests_by v.pass w _ (t r is).after refl refl);
  load_consumer = λ key id v j one there. looking key id v (consumer_place j) (λ n. n) (λ n m'. sweeping j (v, []) n m') (λ n w. SeesConsumer v.pass j n w)
      (λ slots. sweep key slots id (v, []) j one there) (λ n m t. t.0.3) (λ n w t. rests_by v.pass w _ t.after refl refl);
  join = λ key id v number place n may. looking key id v (consumer_place number) (λ _. n) (λ _ m'. keeping (λ v w. LearnsControls [] v w) (λ v w. Joins v number place n w) (v, []) m') (λ _ w. Joins v.pass number place n w)
      (λ slots. join key slots id (v, []) number place n may) (λ n m t. t.3) (λ n w t. rests_by v.pass w _ t refl refl);
  leave = λ key id v place number may. looking key id v (consumer_place number) (λ _. 0) (λ _ m'. keeping (λ v w. LearnsControls [] v w) (λ v w. Leaves v place number w) (v, []) m') (λ _ w. Leaves v.pass place number w)
      (λ slots. leave key slots id (v, []) place number may) (λ n m t. t.3) (λ n w t. rests_by v.pass w _ t refl refl);
  clean = λ key id v may. looking key id v (slot key.identity.geometry v.pass.keeping.cleaned) (λ _. 0) (λ _ m'. keeping (λ v w. LearnsControls [] v w) CleansWord (v, []) m') (λ _ w. CleansWord v.pass w)
      (λ slots. clean key slots id (v, []) may) (λ n m t. t.3) (λ n w t. rests_by v.pass w _ t refl refl);
  limit = λ key id v word may some. looking key id v limit_place (λ _. word) (λ _ m'. keeping (LearnsLimit word) (λ v w. Raises v word w) (v, []) m') (λ _ w. Raises v.pass word w)
      (λ slots. raise key slots id (v, []) word may some) (λ n m t. t.3) (λ n w t. rests_by v.pass w _ t refl refl);
}
