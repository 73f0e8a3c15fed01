-- What is changed at a place, and which places there are.
use Rattle.std.proofs.Common.{◌≡◌, ◌∙◌, ◌<◌, ℕ, ℤ, suc, inl, inr, List, ◌∷◌, ◌++◌, length, take, drop, get_or, set, ap, sym, subst, append-nil, arith, length-append}
use Rattle.std.proofs.Math.Seq.{drop-length}
use Rattle.std.proofs.lemmas.List.{length-take, take_all}
use Rattle.options.specs.declared.ends.plans.SubscribePlan.{SubscribePlan}
use Rattle.std.specs.List.{AllZip}
use Rattle.peer.specs.Ties.{Offer}
use Rattle.subscriber.proofs.Each.{parted, parted_set, zip_length}
use Rattle.subscriber.specs.Choosing.{AttendsAll, AttendsOther, ChangesAt, IsChosen, IsFirst}
use Rattle.subscriber.specs.Sessions.{IsShareAt, share_of}
use Rattle.subscriber.specs.Turning.{AttendsOwn}
use Rattle.subscriber.specs.declared.images.session.Session.{Session}
use Rattle.subscriber.specs.declared.subscription.offers.Chosen.TheVariants as chosen

-- the one at a place becomes another one, by the share of the next image there
pub placed_at : (Becomes : ℕ → Session → Session → Type 0) (xs : List Session) (i share : ℕ) (w x : Session) → i < length xs → w ≡ get_or xs i w → IsShareAt xs i share → Becomes share w x
    → ChangesAt i (λ j k. Becomes (share_of xs j) j k) xs (set xs i x)
placed_at Becomes xs i share w x less is among becomes =
    let was : xs ≡ take i xs ++ w ∷ drop (suc i) xs = parted xs i w less ∙ ap (λ (y : Session). take i xs ++ y ∷ drop (suc i) xs) (sym is) in
    let at : i ≡ length (take i xs) = let long = length-take i xs in omega (arith, long, less) in
    record {
      front = take i xs;
      before = w;
      behind = x;
      back = drop (suc i) xs;
      was = was;
      at = at;
      becomes = subst (λ (n : ℕ). Becomes n w x) (among (take i xs) (drop (suc i) xs) w was at) becomes;
      is = parted_set xs i x less;
    }

within : (front back : List Session) (here : Session) (xs : List Session) (i : ℕ) → xs ≡ front ++ here ∷ back → i ≡ length front → i < length xs
within front back here xs i parts at =
    let long = ap length parts ∙ length-append front (here ∷ back) in
    omega (arith, long, at)

first_within : (Is : Session → Type 0) (xs : List Session) (i : ℕ) → IsFirst Is xs i → i < length xs
first_within Is xs i f = within f.front f.back f.here xs i f.parts f.at

pub own_within : (plan : SubscribePlan) (session : ℤ) (xs : List Session) (i : ℕ) → IsChosen plan session xs (chosen.Own i) → i < length xs
own_within plan session xs i is = first_within _ xs i is

pub given_within : (plan : SubscribePlan) (session : ℤ) (xs : List Session) (i : ℕ) → IsChosen plan session xs (chosen.Given i) → i < length xs
given_within plan session xs i (none, is) =
    elim is [
      | inl oldest ↦ within oldest.1.front oldest.1.back oldest.1.here xs i oldest.1.parts oldest.1.at
      | inr vacant ↦ elim vacant.1 [
        | inl over ↦ first_within _ xs i over
        | inr full ↦ elim full.2 [
          | inl ended ↦ first_within _ xs i ended
          | inr silent ↦ first_within _ xs i silent.1
        ]
      ]
    ]

-- a list that was written whole
pub written_whole : (old new : List Session) (len : ℕ) → len ≡ length old → length new ≡ length old → take len (new ++ drop (length new) old) ≡ new
written_whole old new len is same =
    ap (λ (n : ℕ). take len (new ++ drop n old)) same
    ∙ ap (λ (zs : List Session). take len (new ++ zs)) (drop-length old)
    ∙ ap (λ (zs : List Session). take len zs) (append-nil new)
    ∙ take_all len new (omega (arith, is, same))

-- each session's own was attended, and then the first that was kept of others
pub attended : (plan : SubscribePlan) (moment len : ℕ) (other taken : Offer) (old began middle new : List Session) → len ≡ length old → began ≡ old
    → AllZip (λ (j k : Session). AttendsOwn plan (share_of began j) j k) began middle → other ≡ taken
    → (take len (middle ++ drop (length middle) old) ≡ middle → AttendsOther plan moment taken middle new) → AttendsAll plan moment other old new
attended plan moment len other taken old began middle new is value own gives comes =
    let here : AllZip (λ (j k : Session). AttendsOwn plan (share_of old j) j k) old middle =
    subst (λ (xs : List Session). AllZip (λ (j k : Session). AttendsOwn plan (share_of xs j) j k) xs middle) value own in
    let whole = written_whole old middle len is (zip_length (λ (j k : Session). AttendsOwn plan (share_of old j) j k) old middle here) in
    record {
      middle = middle;
      own = here;
      others = subst (λ (o : Offer). AttendsOther plan moment o middle new) (sym gives) (comes whole);
    }
