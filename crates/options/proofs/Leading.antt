-- Ways one after the other.
use Rattle.std.proofs.Common.{◌≡◌, ◌∙◌, ℕ, suc, ◌+◌, ◌<◌, List, [], ◌∷◌, ◌++◌, length, take, drop, drop-cons, get_or, All, Bor, ap, refl, subst, sym, arith}
use Rattle.std.proofs.lemmas.List.{take-append-drop, take_more}
use Rattle.channel.specs.declared.channel.Transport.{Transport}
use Rattle.options.specs.Ends.Ways.{AreWays, ExplainsNoWays, IsFaultBehind, IsTextFault, IsWay, IsWayFault, LeadsElsewhere, LeadsOn}
use Rattle.options.specs.declared.ends.way_fault.WayFault.{WayFault}
use Rattle.options.specs.declared.ends.way_fault.WayFault.TheVariants.{Many, Endpoint, Family, Twice, Memory}

abbrev pub none : Bor (List ℕ)
none = record { ref_ptr = (0, 0); now = [] }

-- what stands before one of a list, and behind it
pub cut_at : {X : Type 0} (xs : List X) (i : ℕ) (d : X) → i < length xs → xs ≡ take i xs ++ get_or xs i d ∷ drop (suc i) xs
cut_at xs i d low = sym (take-append-drop i xs) ∙ ap (λ ys. take i xs ++ ys) (drop-cons xs i d low)

-- one way more
pub leads_more : (c : Transport) (before ways : List Transport) (texts : List (Bor (List ℕ))) (text : Bor (List ℕ)) (w : Transport) → LeadsOn c before texts ways → IsWay c text.now w → All (LeadsElsewhere w.endpoint) ways → LeadsOn c before (texts ++ text ∷ []) (ways ++ w ∷ [])
leads_more c before ways [] text w h is other = (w, is, subst (All (LeadsElsewhere w.endpoint)) h other, ap (λ (xs : List Transport). xs ++ w ∷ []) h)
leads_more c before ways (t ∷ ts) text w (v, is_v, other_v, h) is other = (v, is_v, other_v, leads_more c (before ++ v ∷ []) ways ts text w h is other)

-- what is wrong with a text alone is so behind any ways
pub alone : (c : Transport) (ways : List Transport) (text : List ℕ) (f : WayFault) → IsTextFault c text f → IsWayFault c ways text f
alone c ways text Many h = absurd h
alone c ways text (Endpoint told) h = h
alone c ways text (Family told) h = h
alone c ways text (Twice told) h = absurd h
alone c ways text Memory h = absurd h

-- a fault of a text is the first
pub explains : (c : Transport) (texts : List (Bor (List ℕ))) (before : List (Bor (List ℕ))) (text : Bor (List ℕ)) (behind : List (Bor (List ℕ))) (ways : List Transport) (f : WayFault) → texts ≡ before ++ text ∷ behind → AreWays c before ways → IsWayFault c ways text.now f → ExplainsNoWays c texts f
explains c texts before text behind ways Many cut lead h = absurd h
explains c texts before text behind ways (Endpoint told) cut lead h = record { before = before; text = text; behind = behind; cut = cut; ways = ways; lead = lead; wrong = h }
explains c texts before text behind ways (Family told) cut lead h = record { before = before; text = text; behind = behind; cut = cut; ways = ways; lead = lead; wrong = h }
explains c texts before text behind ways (Twice told) cut lead h = record { before = before; text = text; behind = behind; cut = cut; ways = ways; lead = lead; wrong = h }
explains c texts before text behind ways Memory cut lead h = tt

-- the text that stands there is wrong
pub one_wrong : (c : Transport) (texts : List (Bor (List ℕ))) (i : ℕ) (ways shown : List Transport) (f : WayFault) → i < length texts → AreWays c (take i texts) ways → shown ≡ ways → IsWayFault c shown (get_or texts i none).now f → ExplainsNoWays c texts f
one_wrong c texts i ways shown f low lead same wrong =
    explains c texts (take i texts) (get_or texts i none) (drop (suc i) texts) ways f (cut_at texts i none low) lead
    (subst (λ (xs : List Transport). IsWayFault c xs (get_or texts i none).now f) same wrong)

-- or it leads on
pub one_more : (c : Transport) (texts : List (Bor (List ℕ))) (i : ℕ) (ways shown after : List Transport) (w : Transport) → i < length texts → AreWays c (take i texts) ways → shown ≡ ways
    → IsWay c (get_or texts i none).now w → All (LeadsElsewhere w.endpoint) shown → after ≡ ways ++ w ∷ [] → AreWays c (take (i + 1) texts) after
one_more c texts i ways shown after w low lead same is other pushed =
    let more : LeadsOn c (c ∷ []) (take i texts ++ get_or texts i none ∷ []) (ways ++ w ∷ []) = leads_more c (c ∷ []) ways (take i texts) (get_or texts i none) w lead is (subst (All (LeadsElsewhere w.endpoint)) same other) in
    subst (λ (xs : List Transport). AreWays c (take (i + 1) texts) xs) (sym pushed)
    (subst (λ (ts : List (Bor (List ℕ))). AreWays c ts (ways ++ w ∷ [])) (sym (take_more texts i none low)) more)
