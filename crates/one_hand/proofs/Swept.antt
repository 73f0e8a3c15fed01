-- The positions that the keeper saw are those of the pass's own consumers, and the limit word that it stores.
use Rattle.std.proofs.Common.{◌≡◌, ◌∙◌, ℕ, ◌+◌, ◌*◌, ◌/◌, ◌%◌, inl, inr, max, Bool, true, false, cond, List, [], ◌∷◌, map, refl, sym, ap, subst, arith}
use Rattle.std.specs.Prelude.{◌&&◌, not, slice_index}
use Rattle.std.proofs.lemmas.Bool.{eq-eqb, ne_eqb}
use Rattle.theory.specs.Placed.{Among}
use Rattle.theory.specs.Refusal.{is_closed, is_connected, limit_in}
use Rattle.publication.specs.declared.pass.Reading.{Reading}
use Rattle.shared_log.specs.Steps.Handles.{PublisherValue}
use Rattle.log_rule.specs.Keepings.{numbered}
use Rattle.shared_log.specs.Keepers.{ReadsConsumer, raised}
use Rattle.one_hand.specs.Hands.{HasAll}
use Rattle.one_hand.specs.Keepings.{keeper_of}
use Rattle.one_hand.specs.Shown.{consumers_of}
use Rattle.one_hand.specs.Stream.{standing}
use Rattle.one_hand.proofs.InHand.{stand}

among_number : (rs : List Reading) (r : Reading) → Among r rs → Among r.number (map (λ (x : Reading). x.number) rs)
among_number [] r a = absurd a
among_number (x ∷ rs) r (inl e) = inl (ap (λ (y : Reading). y.number) e)
among_number (x ∷ rs) r (inr a) = inr (among_number rs r a)

-- where each of them was seen it stands
seen_all : (seen : List ℕ) (rs : List Reading) → ((r : Reading) → Among r rs → slice_index seen r.number ≡ r.position) → map (slice_index seen) (map (λ (r : Reading). r.number) rs) ≡ map (λ (r : Reading). r.position) rs
seen_all seen [] own = refl
seen_all seen (r ∷ rs) own = (λ j. own r (inl refl) j ∷ seen_all seen rs (λ x a. own x (inr a)) j)

-- ---- the limit word

pub record Word (w least t : ℕ) (after : ℕ) : Type 0 where
  pub limit : limit_in after ≡ cond (is_connected w && not (is_closed w)) (max (limit_in w) (least + t / 2)) (limit_in w)
  pub connected : is_connected after ≡ is_connected w
  pub closed : is_closed after ≡ is_closed w

raised_by : (w least t : ℕ) (a b : Bool) → is_connected w ≡ a → is_closed w ≡ b → least % 32 ≡ 0 → t % 64 ≡ 0 → Word w least t (cond (a && not b) (max (limit_in w) (least + t / 2) + 1) w)
raised_by w least t false b ea eb u v = record { limit = ap (λ (x : Bool). cond (x && not (is_closed w)) (max (limit_in w) (least + t / 2)) (limit_in w)) (sym ea); connected = refl; closed = refl }
raised_by w least t true true ea eb u v = record { limit = (λ j. cond (sym ea j && not (sym eb j)) (max (limit_in w) (least + t / 2)) (limit_in w)); connected = refl; closed = refl }
raised_by w least t true false ea eb u v =
    let m : ℕ = max (w / 4 * 4) (least + t / 2) in let unit : m % 4 ≡ 0 = omega arith in record {
      limit = (let e : (m + 1) / 4 * 4 ≡ m = omega arith in e) ∙ (λ j. cond (sym ea j && not (sym eb j)) (max (limit_in w) (least + t / 2)) (limit_in w));
      connected = eq-eqb ((m + 1) % 2) 1 (omega arith) ∙ sym ea;
      closed = ne_eqb ((m + 1) / 2 % 2) 1 (λ e. omega arith) ∙ sym eb;
    }

pub raised_is : (w least t : ℕ) → least % 32 ≡ 0 → t % 64 ≡ 0 → Word w least t (raised w least t)
raised_is w least t u v = raised_by w least t (is_connected w) (is_closed w) refl refl u v

-- those who are there stand where they were seen
pub seen_stand : (p : PublisherValue) (limit cleaned : ℕ) (seen : List ℕ) → HasAll p.pass p.controls → ((j : ℕ) → Among j (numbered 0 p.pass.keeping.there) → ReadsConsumer (keeper_of p limit cleaned) j (slice_index seen j))
    → map (slice_index seen) (numbered 0 p.pass.keeping.there) ≡ standing (consumers_of p.pass)
seen_stand p limit cleaned seen all reads =
    ap (map (slice_index seen)) (sym all.numbers) ∙ seen_all seen p.pass.reading (λ r a. (reads r.number (subst (Among r.number) all.numbers (among_number p.pass.reading r a))).own r a refl)
    ∙ sym (stand p.pass p.controls all)
