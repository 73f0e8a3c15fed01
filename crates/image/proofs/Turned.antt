-- The slots of a unit, gone through one after the other.
use Rattle.std.proofs.Common.{◌≡◌, ℕ, zero, suc, ◌+◌, ◌-◌, ◌*◌, ◌^◌, List, [], ◌∷◌, ◌++◌, append_assoc, refl, sym, ap, ◌∙◌, subst, arith}
use Rattle.atomic_table.specs.Table.{rest, turned}
use Rattle.region.specs.declared.access.ReadAccess.{ReadAccess}
use Rattle.region.specs.declared.access.RegionKey.{RegionKey}
use Rattle.region.specs.Identity.{Round}
use Rattle.image_rule.specs.declared.view.Frame.{Frame}
use Rattle.image_rule.specs.declared.view.Key.{Key}
use Rattle.image_rule.specs.declared.view.Site.{Site}
use Rattle.image_rule.specs.Frames.{IsPart, ring, slot_of}
use Rattle.image_rule.specs.Steps.{TakenOver}
use Rattle.image.specs.Parts.{AnyPart, IsShare, Turning}

append_none : (xs : List (ℕ × ReadAccess)) → xs ++ [] ≡ xs
append_none [] = refl
append_none (x ∷ xs) = ap (λ (ys : List (ℕ × ReadAccess)). x ∷ ys) (append_none xs)

pub same_slot : (key : Key) (t s : Site) (u number slot : ℕ) → t ≡ s → s.key ≡ key → slot ≡ slot_of (ring key) u number → slot ≡ slot_of (ring t.key) u number
same_slot key t s u number slot pick is at = at ∙ (λ j. slot_of (ring (sym is j)) u number) ∙ (λ j. slot_of (ring (sym pick j).key) u number)

module _ (t : Site) (before after : ReadAccess → Type 0) (u : ℕ) where
  pub front_slot : (left slot : ℕ) (mine : List (ℕ × ReadAccess)) → slot ≡ slot_of (ring t.key) u left → Turning t before after u (suc left) mine → (g : ReadAccess) × before g × (mine ≡ (slot, g) ∷ rest mine)
  front_slot left slot mine at tu =
      let x = tu.left_over in
      let e : mine ≡ (slot, x.0) ∷ (x.1 ++ tu.back) = tu.both ∙ ap (λ (l : List (ℕ × ReadAccess)). l ++ tu.back) x.4 ∙ (λ j. (sym at j, x.0) ∷ (x.1 ++ tu.back)) in
      (x.0, x.2, e ∙ ap (λ (l : List (ℕ × ReadAccess)). (slot, x.0) ∷ l) (sym (ap rest e)))

  pub turn_on : (left slot : ℕ) (mine now : List (ℕ × ReadAccess)) (new : ReadAccess) → slot ≡ slot_of (ring t.key) u left → Turning t before after u (suc left) mine → after new → now ≡ turned ((slot, new) ∷ rest mine) → Turning t before after u left now
  turn_on left slot mine now new at tu is e =
      let x = tu.left_over in let last : List (ℕ × ReadAccess) = (slot_of (ring t.key) u left, new) ∷ [] in
      let r : rest mine ≡ x.1 ++ tu.back = ap rest (tu.both ∙ ap (λ (l : List (ℕ × ReadAccess)). l ++ tu.back) x.4) in
      record {
        front = x.1;
        back = tu.back ++ last;
        both = e ∙ (λ j. r j ++ (at j, new) ∷ []) ∙ append_assoc x.1 tu.back last;
        left_over = x.3;
        done = λ rs taken. subst (TakenOver t after u 8 []) (sym (append_assoc tu.back last rs)) (tu.done ((slot_of (ring t.key) u left, new) ∷ rs) (new, rs, is, taken, refl));
      }

  pub turn_first : (mine : List (ℕ × ReadAccess)) → TakenOver t before u 8 [] mine → Turning t before after u 8 mine
  turn_first mine taken = record { front = mine; back = []; both = sym (append_none mine); left_over = taken; done = λ rs x. x }

  pub turn_last : (mine : List (ℕ × ReadAccess)) → Turning t before after u 0 mine → TakenOver t after u 8 [] mine
  turn_last mine tu = subst (TakenOver t after u 8 []) (append_none tu.back ∙ sym (tu.both ∙ ap (λ (l : List (ℕ × ReadAccess)). l ++ tu.back) tu.left_over)) (tu.done [] refl)

-- the value that was in front
abbrev value_or : ReadAccess → List (ℕ × ReadAccess) → ReadAccess
value_or d [] = d
value_or d (x ∷ xs) = x.1

pub same_front : (mine : List (ℕ × ReadAccess)) (j k : ℕ) (x y : ReadAccess) (more others : List (ℕ × ReadAccess)) → mine ≡ (j, x) ∷ more → mine ≡ (k, y) ∷ others → x ≡ y
same_front mine j k x y more others a b = ap (λ (l : List (ℕ × ReadAccess)). value_or x l) (sym a ∙ b)

-- whatever is carried is some part
pub any_parts : (t : Site) (is : ReadAccess → Type 0) (u k : ℕ) (before mine : List (ℕ × ReadAccess)) → TakenOver t is u k before mine → TakenOver t AnyPart u k before mine
any_parts t is u zero before mine e = e
any_parts t is u (suc k) before mine x = (x.0, x.1, tt, any_parts t is u k before x.1 x.3, x.4)

pub each_part : (t : Site) (is also : ReadAccess → Type 0) (u k : ℕ) (before mine : List (ℕ × ReadAccess)) → ((g : ReadAccess) → is g → also g) → TakenOver t is u k before mine → TakenOver t also u k before mine
each_part t is also u zero before mine f e = e
each_part t is also u (suc k) before mine f x = (x.0, x.1, f x.0 x.2, each_part t is also u k before x.1 f x.3, x.4)

-- ---- parts of one share

module _ (n : ℕ) (region : RegionKey) (f : Frame) (r b : ℕ) where
  abbrev one_round : Round
  one_round = record { life = r; book = b }

  -- an eighth of what is left
  pub eighth_is : (left : ℕ) (g one : ReadAccess) → IsShare n region f (suc left * 2 ^ 60) g → g.round ≡ one_round → one ≡ record g { count = 2 ^ 60 } → IsPart n region f r b one
  eighth_is left g one s same e = subst (IsPart n region f r b) (sym e) (record { identity = s.identity; at = s.at; count = refl; round = same; long = s.long; spells = s.spells })

  pub others_are : (left : ℕ) (g others : ReadAccess) → IsShare n region f (suc left * 2 ^ 60) g → g.round ≡ one_round → others ≡ record g { count = g.count - 2 ^ 60 } → IsShare n region f (left * 2 ^ 60) others × (others.round ≡ one_round)
  others_are left g others s same e =
      let c = s.count in
      (subst (IsShare n region f (left * 2 ^ 60)) (sym e) (record { identity = s.identity; at = s.at; count = omega arith; long = s.long; spells = s.spells }), ap (λ (x : ReadAccess). x.round) e ∙ same)

  pub first_share : (g : ReadAccess) → IsPart n region f r b g → IsShare n region f (1 * 2 ^ 60) g × (g.round ≡ one_round)
  first_share g p = (record { identity = p.identity; at = p.at; count = p.count; long = p.long; spells = p.spells }, p.round)

  pub joined_are : (have : ℕ) (g one both : ReadAccess) → IsShare n region f (have * 2 ^ 60) g → g.round ≡ one_round → IsPart n region f r b one → both ≡ record g { count = g.count + one.count } → IsShare n region f (suc have * 2 ^ 60) both × (both.round ≡ one_round)
  joined_are have g one both s same p e =
      let c = s.count in let d = p.count in
      (subst (IsShare n region f (suc have * 2 ^ 60)) (sym e) (record { identity = s.identity; at = s.at; count = omega arith; long = s.long; spells = s.spells }), ap (λ (x : ReadAccess). x.round) e ∙ same)
