-- What a hand holds beside its log is right behind each call.
use Rattle.std.proofs.Math.Nat.{mul-le-mul_right}
use Rattle.std.proofs.Common.{◌≡◌, ◌∙◌, ℕ, zero, suc, ◌+◌, ◌*◌, ◌-◌, ◌<◌, ◌≤◌, List, [], ◌∷◌, map, Some, None, sym, ap, subst, arith}
use Rattle.std.specs.Prelude.{Err, IfErr, IfOk, Ok, Option, Result, length, slice_index, slice_index_or, slice_set, sum}
use Rattle.std.proofs.lemmas.List.{get_or-set_same}
use Rattle.std.proofs.lemmas.List.Sums.{sum_by-cons}
use Rattle.publication.specs.declared.pass.ClaimRange.{ClaimRange}
use Rattle.publication.specs.declared.pass.Keeping.{Keeping}
use Rattle.publication.specs.declared.pass.Reading.{Reading}
use Rattle.publication.specs.declared.refusal.Refusal.{Refusal}
use Rattle.shared_log.specs.Steps.Handles.{LogValue, PublisherValue}
use Rattle.log_rule.specs.Shares.{claimed_bytes}
use Rattle.one_hand.specs.Entries.{with_share}
use Rattle.one_hand.specs.Legal.{IsStream}
use Rattle.one_hand.specs.Stream.{Stream, term_of}
use Rattle.one_hand.proofs.InHand.{is_stream, knows_on}
use Rattle.one_hand.specs.declared.log_hand.LogHand.TheInside.{Inside}
use Rattle.one_hand.specs.declared.log_hand.held.Held.{Held}
use Rattle.one_hand.specs.Shown.{consumers_of, seated, shares_of}
use Rattle.one_hand.specs.Hands.{Claims, ClaimsNone, IsEnd, IsInHand, SameRest, Shares, range, stream_in}
use Rattle.one_hand.specs.Parts.{AreNumbers, IsHand, Numbers, Stands, stream_at}

abbrev pub numbers : Inside → Numbers
numbers h = record { shares = h.shares; positions = h.positions; limit = h.limit; cleaned = h.cleaned; there = h.there; block = length h.block }

-- the pass that was taken out is the one that was there
pub there : (h : Inside) (p : PublisherValue) → IsHand h.log h.all h.held (numbers h) → h.all ≡ Some p → Stands h.log p h.held (numbers h)
there h p is e = subst (λ (x : Option PublisherValue). IsHand h.log x h.held (numbers h)) e is

pub nobody : (h : Inside) → IsHand h.log h.all h.held (numbers h) → h.all ≡ None → ⊥
nobody h is e = subst (λ (x : Option PublisherValue). IsHand h.log x h.held (numbers h)) e is

pub shown : (h : Inside) (p : PublisherValue) (s : Stream) → stream_at h.all h.held ≡ s → h.all ≡ Some p → stream_in p h.held ≡ s
shown h p s v e = ap (λ (x : Option PublisherValue). stream_at x h.held) (sym e) ∙ v

tail_small : (s : Stream) → IsStream s → s.tail ≤ 36028797018963968
tail_small s is =
    let last : s.active + 1 ≤ 2147483648 = (let l = is.last in omega (arith, l)) in
    let most : (s.active + 1) * term_of s ≤ 2147483648 * term_of s = mul-le-mul_right (term_of s) last in
    let short : term_of s ≤ 16777216 = is.geometry.term.greatest in
    let to : s.tail ≤ (s.active + 1) * term_of s = is.to in
    omega (arith, most, short, to)

pub tail_fits : (s : Stream) (start covered : ℕ) → IsStream s → start ≡ s.tail → covered < 4294967296 → start + covered < 18446744073709551616
tail_fits s start covered is at short = let tail : s.tail ≤ 36028797018963968 = tail_small s is in omega (arith, at, short, tail)

pub hand_whole : (l : LogValue) (o : Option PublisherValue) (held : List (Option Held)) (n : Numbers) → IsHand l o held n → IsStream (stream_at o held)
hand_whole l None held n h = absurd h
hand_whole l (Some p) held n h = is_stream l p held h.hand

-- ---- shares

at_most : (xs : List ℕ) (k : ℕ) → slice_index xs k ≤ sum xs
at_most [] k = omega arith
at_most (x ∷ xs) zero = let e = sum_by-cons (λ (y : ℕ). y) x xs in omega arith
at_most (x ∷ xs) (suc k) = let e = sum_by-cons (λ (y : ℕ). y) x xs in let h = at_most xs k in omega arith

-- its consumers stand where they stood
still : {l : LogValue} (p q : PublisherValue) (n : Numbers) → AreNumbers l p n → SameRest p q → (k at : ℕ) → slice_index_or (consumers_of q.pass) k None ≡ Some at → slice_index n.positions k ≡ at
still p q n was rest k at e = was.positions k at (subst (λ (cs : List (Option ℕ)). slice_index_or cs k None ≡ Some at) (λ j. seated ((rest.keeping j).there) (map (λ (x : Reading). x.position) (rest.reading j))) e)

module _ (l : LogValue) (p q : PublisherValue) (held : List (Option Held)) (number : ℕ) (low : number < 8) (n : Numbers) (was : AreNumbers l p n) (r : Shares p number q) (hand : IsInHand l q held) where
  pub share_fits : slice_index n.shares number + (claimed_bytes q.pass - claimed_bytes p.pass) ≤ claimed_bytes q.pass
  share_fits =
      let d : ℕ = claimed_bytes q.pass - claimed_bytes p.pass in
      let one : slice_index (shares_of q.pass.right.claims) number ≡ slice_index n.shares number + d =
      ap (λ (xs : List ℕ). slice_index xs number) r.shares ∙ get_or-set_same (shares_of p.pass.right.claims) number (slice_index (shares_of p.pass.right.claims) number + d) 0 (omega arith) ∙ ap (λ (xs : List ℕ). slice_index xs number + d) (sym was.shares) in
      let all : q.pass.start + sum (shares_of q.pass.right.claims) ≡ q.pass.start + claimed_bytes q.pass = hand.whole.stream.shares in
      let most = at_most (shares_of q.pass.right.claims) number in omega arith

  pub stands_on : Stands l q held (record n { shares = slice_set n.shares number (slice_index n.shares number + (claimed_bytes q.pass - claimed_bytes p.pass)) })
  stands_on = record {
    hand = hand;
    numbers = record {
      shares = ap (λ (xs : List ℕ). with_share xs number (claimed_bytes q.pass - claimed_bytes p.pass)) was.shares ∙ sym r.shares;
      places = was.places;
      positions = still p q n was r.rest;
      limit = was.limit ∙ ap (λ (k : Keeping). k.limit) (sym r.rest.keeping);
      cleaned = was.cleaned ∙ ap (λ (k : Keeping). k.cleaned) (sym r.rest.keeping);
      knows = knows_on p.pass q.pass n.there r.rest.keeping was.knows;
      block = was.block;
    };
  }

-- a claim, whatever came of it
pub claim_shares : (l : LogValue) (p q : PublisherValue) (number size : ℕ) (answer : Result ℕ Refusal) → IfOk answer (λ start. Claims l p number size start q) → IfErr answer (λ why. ClaimsNone l p number size why q) → (held : List (Option Held)) → IsInHand l p held → (later : List (Option Held)) × IsInHand l q later × Shares p number q
claim_shares l p q number size (Ok start) good bad held hand = let e = good held hand in (slice_set held number (Some (range start size)), e.hand, e.shares)
claim_shares l p q number size (Err why) good bad held hand = let e = bad held hand in (held, e.hand, e.shares)

-- an open claim ended
pub ends_on : (l : LogValue) (p q : PublisherValue) (held : List (Option Held)) (n : Numbers) (ends : Stream → Type 0) → AreNumbers l p n → IsEnd l p held q ends → Stands l q held n
ends_on l p q held n ends was e = record {
  hand = e.hand;
  numbers = record {
    shares = was.shares ∙ ap (λ (cs : List ClaimRange). shares_of cs) (sym e.same);
    places = was.places;
    positions = still p q n was e.rest;
    limit = was.limit ∙ ap (λ (k : Keeping). k.limit) (sym e.rest.keeping);
    cleaned = was.cleaned ∙ ap (λ (k : Keeping). k.cleaned) (sym e.rest.keeping);
    knows = knows_on p.pass q.pass n.there e.rest.keeping was.knows;
    block = was.block;
  };
}
