-- Destinations one after the other.
use Rattle.std.proofs.Common.{◌≡◌, ◌∙◌, ◌⊎◌, inl, inr, ◌+◌, ◌<◌, ◌≤◌, ℕ, List, [], ◌∷◌, ◌++◌, get_or, length, Option, None, ap, sym, subst, arith}
use Rattle.std.proofs.Math.ListN.{get_or-append}
use Rattle.std.proofs.Math.Seq.{get_or-append_seam}
use Rattle.std.proofs.lemmas.Bool.{cases_lt}
use Rattle.std.proofs.lemmas.List.{get_or_default}
use Rattle.std.specs.declared.net.SocketAddr.TheVariants.{V4}
use Rattle.peer.specs.Ties.{Tied}
use Rattle.endpoint.specs.declared.udp.Route.{Route}
use Rattle.options.specs.declared.ends.plans.PublishPlan.{PublishPlan}
use Rattle.publisher.specs.Destinations.{IsAlong, IsDestinationOf, peer_of, place_of, socket_along}
use Rattle.publisher.specs.Seeing.{ChannelDestination}

-- the route that a proof names where none stands
abbrev pub none : Route
none = record { binding = record { address = V4 (record { ip = record { octets = [] }; port = 0 }); ttl = None }; peer = V4 (record { ip = record { octets = [] }; port = 0 }) }

-- the destination along the route that stands there
pub one_along : (p : PublishPlan) (routes : List Route) (i number : ℕ) (place : Option ℕ) (d : Route) (socket : Tied) (w : ChannelDestination Tied) → i < length routes → number ≡ i → place ≡ place_of (length routes) number → socket ≡ socket_along p (get_or routes i d) → IsDestinationOf p place (peer_of (get_or routes i d)) socket w → IsAlong p routes i w
one_along p routes i number place d socket w low same there tied is = record {
  route = get_or routes i d;
  stands = get_or_default routes i d (get_or routes i d) low;
  is = subst (λ (o : Option ℕ). IsDestinationOf p o (peer_of (get_or routes i d)) (socket_along p (get_or routes i d)) w) (there ∙ ap (place_of (length routes)) same)
      (subst (λ (t : Tied). IsDestinationOf p place (peer_of (get_or routes i d)) t w) tied is);
}

-- one more
pub more_along : (p : PublishPlan) (routes : List Route) (destinations after : List (ChannelDestination Tied)) (i : ℕ) (w : ChannelDestination Tied) → length destinations ≡ i → ((k : ℕ) (d : ChannelDestination Tied) → k < i → IsAlong p routes k (get_or destinations k d)) → IsAlong p routes i w → after ≡ destinations ++ w ∷ []
    → (k : ℕ) (d : ChannelDestination Tied) → k < i + 1 → IsAlong p routes k (get_or after k d)
more_along p routes destinations after i w many each is pushed k d low =
    subst (λ (xs : List (ChannelDestination Tied)). IsAlong p routes k (get_or xs k d)) (sym pushed) (either (cases_lt k i))
  where
    either : (k < i) ⊎ (i ≤ k) → IsAlong p routes k (get_or (destinations ++ w ∷ []) k d)
    either (inl below) = subst (IsAlong p routes k) (sym (get_or-append destinations (w ∷ []) d k (subst (λ n. k < n) (sym many) below))) (each k d below)
    either (inr above) =
        let here : k ≡ length destinations = omega (arith, above, low, many) in
        let at : get_or (destinations ++ w ∷ []) k d ≡ w = ap (λ n. get_or (destinations ++ w ∷ []) n d) here ∙ get_or-append_seam destinations w [] d in
        subst (IsAlong p routes k) (sym at) (subst (λ n. IsAlong p routes n w) (sym (here ∙ many)) is)
