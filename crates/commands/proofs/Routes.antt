-- Routes one after the other, and ways that there are.
use Rattle.std.proofs.Common.{◌≡◌, ◌∙◌, ◌≤◌, ◌<◌, ◌+◌, ⊎_elim, ℕ, List, [], ◌∷◌, ◌++◌, Bor, get_or, length, length-append, None, take, ap, subst, sym, arith}
use Rattle.std.proofs.Math.ListN.{get_or-append}
use Rattle.std.proofs.Math.Seq.{get_or-append_seam}
use Rattle.std.proofs.lemmas.Bool.{cases_lt}
use Rattle.std.proofs.lemmas.List.{take_more}
use Rattle.std.specs.declared.net.IpAddr.TheVariants.{V4}
use Rattle.channel.specs.declared.host.Host.TheVariants.{Address}
use Rattle.channel.specs.declared.channel.Transport.{Transport}
use Rattle.endpoint.specs.declared.udp.Route.{Route}
use Rattle.options.specs.Ends.Ways.{AreWays, LeadsOn}
use Rattle.commands.specs.Routes.{ArePeersApart, AreRoutesAlong, IsRouteAlong, LeadElsewhere}

-- the way that a proof names where none stands
abbrev pub none : Transport
none = record { endpoint = record { host = Address (V4 (record { octets = [] })); port = 0 }; interface = None; ttl = None }

-- one route more
routes_more : (ts : List Transport) (rs : List Route) (t : Transport) (r : Route) → AreRoutesAlong ts rs → IsRouteAlong t r → AreRoutesAlong (ts ++ t ∷ []) (rs ++ r ∷ [])
routes_more [] [] t r all is = (is, tt)
routes_more [] (s ∷ rs) t r all is = absurd all
routes_more (u ∷ ts) [] t r all is = absurd all
routes_more (u ∷ ts) (s ∷ rs) t r all is = (all.0, routes_more ts rs t r all.1 is)

-- the one along the way that stands there
pub next_route : (ts : List Transport) (rs after : List Route) (i : ℕ) (d : Transport) (r : Route) → i < length ts → AreRoutesAlong (take i ts) rs → IsRouteAlong (get_or ts i d) r → after ≡ rs ++ r ∷ [] → AreRoutesAlong (take (i + 1) ts) after
next_route ts rs after i d r low all is pushed =
    subst (λ (xs : List Route). AreRoutesAlong (take (i + 1) ts) xs) (sym pushed)
    (subst (λ (us : List Transport). AreRoutesAlong us (rs ++ r ∷ [])) (sym (take_more ts i d low)) (routes_more (take i ts) rs (get_or ts i d) r all is))

-- there are as many ways as before at least
longer : (c : Transport) (before ways : List Transport) (texts : List (Bor (List ℕ))) → LeadsOn c before texts ways → length before ≤ length ways
longer c before ways [] h = let same = ap length h in omega (arith, same)
longer c before ways (t ∷ ts) (w, is, other, h) =
    let more = longer c (before ++ w ∷ []) ways ts h in let long = length-append before (w ∷ []) in omega (arith, more, long)

pub some_ways : (c : Transport) (texts : List (Bor (List ℕ))) (ways : List Transport) → AreWays c texts ways → 0 < length ways
some_ways c texts ways h = let more : length (c ∷ []) ≤ length ways = longer c (c ∷ []) ways texts h in omega (arith, more)

-- one more that leads elsewhere than those before
pub one_apart : (routes after : List Route) (r : Route) → ArePeersApart routes → LeadElsewhere routes r.peer → after ≡ routes ++ r ∷ [] → ArePeersApart after
one_apart routes after r apart elsewhere pushed i j d low within =
    let more : length after ≡ length routes + 1 = ap length pushed ∙ length-append routes (r ∷ []) in
    let below : i < length routes = omega (arith, low, within, more) in
    let first : get_or after i d ≡ get_or routes i d = ap (λ (xs : List Route). get_or xs i d) pushed ∙ get_or-append routes (r ∷ []) d i below in
    ⊎_elim
    (λ (inside : j < length routes).
    let second : get_or after j d ≡ get_or routes j d = ap (λ (xs : List Route). get_or xs j d) pushed ∙ get_or-append routes (r ∷ []) d j inside in
    λ same. apart i j d low inside (ap (λ (x : Route). x.peer) (sym first) ∙ same ∙ ap (λ (x : Route). x.peer) second))
    (λ (behind : length routes ≤ j).
    let last : j ≡ length routes = omega (arith, behind, within, more) in
    let there : get_or after j d ≡ r = ap (λ (xs : List Route). get_or xs j d) pushed ∙ ap (λ n. get_or (routes ++ r ∷ []) n d) last ∙ get_or-append_seam routes r [] d in
    λ same. elsewhere i d below (ap (λ (x : Route). x.peer) (sym first) ∙ same ∙ ap (λ (x : Route). x.peer) there))
    (cases_lt j (length routes))
