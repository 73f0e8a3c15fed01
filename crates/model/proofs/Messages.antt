-- The frames from j to q, put together, are the messages from j to q.
use Rattle.std.proofs.Common.{◌≡◌, ℕ, suc, ◌+◌, ◌<◌, ◌≤◌, inl, inr, ⊎_elim, List, [], ◌∷◌, ◌++◌, map, length, Bool, true, false, cond, not, Option, None, Some, refl, sym, ap, ◌∙◌, subst, append_assoc, append-nil, arith}
use Rattle.std.specs.List.{AllByRecursion, flat_map, filter}
use Rattle.std.specs.Option.{option_to_list}
use Rattle.std.specs.Prelude.{nat_le, nat_eq, ◌&&◌}
use Rattle.std.proofs.lemmas.Bool.{cases_Bool, cases_lt, cases_eq, leb-true, cond-true, cond-false, le-leb, lt-leb, eq-eqb, ne_eqb, and_parts, and_right, false_from_ne_true}
use Rattle.std.proofs.Math.Bool.{and-true}
use Rattle.theory.specs.Position.{aligned, span}
use Rattle.theory.specs.Placed.{Frame, Data, Pad, frame_length, payload_of, Placed, end_of, Among, place_all, Chain, AllAmong}
use Rattle.theory.specs.Entry.{Entry, IsEntry, HaveFrames, ArePieces, ArePadding, flags_of, entry_end, committed}
use Rattle.theory.specs.Tiling.{Tiles}
use Rattle.theory.specs.Messages.{is_whole, is_between, message_of, messages}
use Rattle.model.specs.StreamLaws.{GivesMessages}
use Rattle.theory.specs.Assembly.{nothing_heard, Assembly, after}
use Rattle.theory.proofs.Lists.{among_cases, all_at, all_from, all_weaker}
use Rattle.theory.proofs.Frames.{AreCut, are_cut, InOrder, InOrder-append, in_order_from, placed_below, placed_in_order, pieces_cut, committed_in_order, placed_before}
use Rattle.model.proofs.Consumers.{heard}
use Rattle.theory.proofs.Follow.{chain_from, chain_le}

-- what is read from c on is not among the frames that start before c
pub later_only : (front frames read : List Placed) (c q : ℕ) → AllByRecursion (λ s. s.at < c) front → Chain c q read → AllAmong (front ++ frames) read → AllAmong frames read
later_only front frames read c q before chain among =
    all_from (λ s. Among s frames) read
    (λ s a. ⊎_elim
    (λ (here : Among s front). let low : s.at < c = all_at (λ x. x.at < c) s front before here in let high : c ≤ s.at = chain_from c q read s chain a in absurd (omega arith))
    (λ (there : Among s frames). there)
    (among_cases s front frames (all_at (λ x. Among x (front ++ frames)) s read among a)))

-- ---- messages of a list of entries

not_between : (c q : ℕ) (e : Entry) → (c ≤ e.start → entry_end e ≤ q → ⊥) → is_between c q e ≡ false
not_between c q e cannot =
    false_from_ne_true (is_between c q e)
    (λ t. let ends = and_parts (not e.padding && is_whole e && nat_le c e.start) (nat_le (entry_end e) q) t in
    let starts = and_parts (not e.padding && is_whole e) (nat_le c e.start) ends.0 in
    cannot (leb-true c e.start starts.1) (leb-true (entry_end e) q ends.1))

messages_skip : (c q : ℕ) (e : Entry) (es : List Entry) → is_between c q e ≡ false → messages c q (e ∷ es) ≡ messages c q es
messages_skip c q e es f = ap (map message_of) (cond-false (is_between c q e) (e ∷ filter (is_between c q) es) (filter (is_between c q) es) f)

messages_take : (c q : ℕ) (e : Entry) (es : List Entry) → is_between c q e ≡ true → messages c q (e ∷ es) ≡ message_of e ∷ messages c q es
messages_take c q e es t = ap (map message_of) (cond-true (is_between c q e) (e ∷ filter (is_between c q) es) (filter (is_between c q) es) t)

pub messages_none : (c q : ℕ) (es : List Entry) → AllByRecursion IsEntry es → q ≤ c → messages c q es ≡ []
messages_none c q [] k h = refl
messages_none c q (e ∷ es) k h = messages_skip c q e es (not_between c q e (λ low high. omega (arith, k.0.long))) ∙ messages_none c q es k.1 h

pub messages_from : (c d q term p tail : ℕ) (es : List Entry) → Tiles term p tail es → c ≤ p → d ≤ p → messages c q es ≡ messages d q es
messages_from c d q term p tail [] t l m = refl
messages_from c d q term p tail (e ∷ es) t l m =
    let start : e.start ≡ p = t.0 in
    let rest : messages c q es ≡ messages d q es = messages_from c d q term (entry_end e) tail es t.2 (omega arith) (omega arith) in
    let tests : is_between c q e ≡ is_between d q e = ap (λ b. not e.padding && is_whole e && b && nat_le (entry_end e) q) (le-leb c e.start (omega arith) ∙ sym (le-leb d e.start (omega arith))) in
    ⊎_elim
    (λ (y : is_between c q e ≡ true). messages_take c q e es y ∙ ap (λ ms. message_of e ∷ ms) rest ∙ sym (messages_take d q e es (sym tests ∙ y)))
    (λ (n : is_between c q e ≡ false). messages_skip c q e es n ∙ rest ∙ sym (messages_skip d q e es (sym tests ∙ n)))
    (cases_Bool (is_between c q e))

-- ---- the rest of an entry

-- what the rest of a message makes with what is begun
abbrev joined : Bool → Option (List ℕ) → List Frame → Option (List ℕ)
joined true b fs = Some (flat_map payload_of fs)
joined false None fs = None
joined false (Some y) fs = Some (y ++ flat_map payload_of fs)

abbrev part : Bool → Option (List ℕ) → List ℕ → List Frame → ℕ → ℕ → List (List ℕ)
part first b cuts fs end q = cond (nat_eq (length fs) (length cuts) && nat_le end q) (option_to_list (joined first b fs)) []

-- from this entry list on, frames make its messages
abbrev Makes : ℕ → List Entry → Type 0
Makes q es = (c : ℕ) (read : List Placed) (a : Assembly) → a.begun ≡ None → Chain c q read → AllAmong (committed es) read → (heard a read).given ≡ a.given ++ messages c q es

eqb-suc : (a b : ℕ) → nat_eq (suc a) (suc b) ≡ nat_eq a b
eqb-suc a b =
    ⊎_elim
    (λ (e : a ≡ b). eq-eqb (suc a) (suc b) (ap suc e) ∙ sym (eq-eqb a b e))
    (λ (n : a ≡ b → ⊥). ne_eqb (suc a) (suc b) (λ e. n (omega arith)) ∙ sym (ne_eqb a b n))
    (cases_eq a b)

-- what a piece leaves, by its flags
pub last_begun : (first : Bool) (b : Option (List ℕ)) (given : List (List ℕ)) (payload : List ℕ) → (after (record { begun = b; given = given }) (Data (flags_of first []) payload)).begun ≡ None
last_begun true b given payload = refl
last_begun false None given payload = refl
last_begun false (Some y) given payload = refl

last_given : (first : Bool) (b : Option (List ℕ)) (given : List (List ℕ)) (flags : ℕ) (payload : List ℕ) → (after (record { begun = b; given = given }) (Data (flags_of first []) payload)).given ≡ given ++ option_to_list (joined first b (Data flags payload ∷ []))
last_given true b given flags payload = ap (λ x. given ++ x ∷ []) (sym (append-nil payload))
last_given false None given flags payload = refl
last_given false (Some y) given flags payload = ap (λ x. given ++ (y ++ x) ∷ []) (sym (append-nil payload))

more_given : (first : Bool) (b : Option (List ℕ)) (given : List (List ℕ)) (cut : ℕ) (cuts : List ℕ) (payload : List ℕ) → (after (record { begun = b; given = given }) (Data (flags_of first (cut ∷ cuts)) payload)).given ≡ given
more_given true b given cut cuts payload = append-nil given
more_given false None given cut cuts payload = append-nil given
more_given false (Some y) given cut cuts payload = append-nil given

more_joined : (first : Bool) (b : Option (List ℕ)) (given : List (List ℕ)) (cut : ℕ) (cuts : List ℕ) (flags : ℕ) (payload : List ℕ) (fs : List Frame) → joined false (after (record { begun = b; given = given }) (Data (flags_of first (cut ∷ cuts)) payload)).begun fs ≡ joined first b (Data flags payload ∷ fs)
more_joined true b given cut cuts flags payload fs = refl
more_joined false None given cut cuts flags payload fs = refl
more_joined false (Some y) given cut cuts flags payload fs = ap Some (append_assoc y payload (flat_map payload_of fs))

-- what starts where a frame does is that frame
pub head_read : (x : ℕ) (f : Frame) (rest : List Placed) (s : Placed) → Among s (record { at = x; frame = f } ∷ rest) → s.at ≡ x → InOrder (x + aligned (frame_length f)) rest → 0 < aligned (frame_length f) → s ≡ record { at = x; frame = f }
head_read x f rest s (inl e) at order long = e
head_read x f rest s (inr a) at order long = let later : x + aligned (frame_length f) ≤ s.at = in_order_from (x + aligned (frame_length f)) rest s order a in absurd (omega arith)

pub rest_in_order : (x : ℕ) (cuts : List ℕ) (fs : List Frame) (es : List Entry) → AreCut cuts fs → InOrder (x + span cuts) (committed es) → InOrder x (place_all x fs ++ committed es)
rest_in_order x cuts fs es cut order = InOrder-append x (x + span cuts) (place_all x fs) (committed es) (placed_in_order x fs) (placed_below x cuts fs cut) (omega arith) order

-- from the start of a piece
reads_on : (q : ℕ) (es : List Entry) → AllByRecursion IsEntry es → Makes q es → (first : Bool) (x : ℕ) (cuts : List ℕ) (fs : List Frame) (a : Assembly) (read : List Placed) → AllByRecursion (λ cut. 0 < cut) cuts → 0 < span cuts → ArePieces first cuts fs → InOrder (x + span cuts) (committed es) → Chain x q read → AllAmong (place_all x fs ++ committed es) read → (heard a read).given ≡ a.given ++ (part first a.begun cuts fs (x + span cuts) q ++ messages (x + span cuts) q es)
reads_on q es k makes first x cuts fs a [] pos long pieces order chain among =
    let at : q ≡ x = chain in
    let open_part : part first a.begun cuts fs (x + span cuts) q ≡ [] = cond-false (nat_eq (length fs) (length cuts) && nat_le (x + span cuts) q) (option_to_list (joined first a.begun fs)) [] (and_right (nat_eq (length fs) (length cuts)) (nat_le (x + span cuts) q) (lt-leb (x + span cuts) q (omega arith))) in
    let nothing : messages (x + span cuts) q es ≡ [] = messages_none (x + span cuts) q es k (omega arith) in
    sym (ap (λ m. a.given ++ (m ++ messages (x + span cuts) q es)) open_part ∙ ap (λ m. a.given ++ m) nothing ∙ append-nil a.given)
reads_on q es k makes first x [] fs a (s ∷ ss) pos long pieces order chain among = absurd (omega arith)
reads_on q es k makes first x (cut ∷ cuts) [] a (s ∷ ss) pos long pieces order chain among =
    let later : x + span (cut ∷ cuts) ≤ s.at = in_order_from (x + span (cut ∷ cuts)) (committed es) s order among.0 in
    absurd (omega (arith, chain.0))
reads_on q es k makes first x (cut ∷ cuts) (Pad n ∷ fs) a (s ∷ ss) pos long pieces order chain among = absurd pieces.0
reads_on q es k makes first x (cut ∷ []) (Data flags payload ∷ (g ∷ gs)) a (s ∷ ss) pos long pieces order chain among = absurd pieces.1
reads_on q es k makes first x (cut ∷ []) (Data flags payload ∷ []) a (s ∷ ss) pos long pieces order chain among =
    let length_is : aligned (32 + length payload) ≡ aligned cut = ap aligned pieces.0.1 in
    let t : Placed = record { at = x; frame = Data flags payload } in
    let end : ℕ = x + span (cut ∷ []) in
    let lower : x + aligned (32 + length payload) ≡ end = omega arith in
    let order' : InOrder (x + aligned (32 + length payload)) (committed es) = subst (λ y. InOrder y (committed es)) (sym lower) order in
    let is : s ≡ t = head_read x (Data flags payload) (committed es) s among.0 chain.0 order' (omega arith) in
    let ends : end_of s ≡ end = ap end_of is ∙ lower in
    let a' : Assembly = after a (Data (flags_of first []) payload) in
    let same : heard a (s ∷ ss) ≡ heard a' ss = ap (λ (y : Placed). heard (after a y.frame) ss) is ∙ ap (λ y. heard (after a (Data y payload)) ss) pieces.0.0 in
    let chain' : Chain end q ss = subst (λ y. Chain y q ss) ends chain.1 in
    let among' : AllAmong (committed es) ss = later_only (t ∷ []) (committed es) ss end q (omega arith, tt) chain' among.1 in
    let made : (heard a' ss).given ≡ a'.given ++ messages end q es = makes end ss a' (last_begun first a.begun a.given payload) chain' among' in
    let given : a'.given ≡ a.given ++ option_to_list (joined first a.begun (Data flags payload ∷ [])) = last_given first a.begun a.given flags payload in
    let whole : part first a.begun (cut ∷ []) (Data flags payload ∷ []) end q ≡ option_to_list (joined first a.begun (Data flags payload ∷ [])) = cond-true (nat_le end q) (option_to_list (joined first a.begun (Data flags payload ∷ []))) [] (le-leb end q (chain_le end q ss chain')) in
    ap (λ (y : Assembly). y.given) same ∙ made ∙ ap (λ g. g ++ messages end q es) given
    ∙ append_assoc a.given (option_to_list (joined first a.begun (Data flags payload ∷ []))) (messages end q es)
    ∙ ap (λ m. a.given ++ (m ++ messages end q es)) (sym whole)
reads_on q es k makes first x (cut ∷ (cut' ∷ cuts)) (Data flags payload ∷ fs) a (s ∷ ss) pos long pieces order chain among =
    let length_is : aligned (32 + length payload) ≡ aligned cut = ap aligned pieces.0.1 in
    let t : Placed = record { at = x; frame = Data flags payload } in
    let end : ℕ = x + span (cut ∷ (cut' ∷ cuts)) in
    let next : ℕ = x + aligned (32 + length payload) in
    let lower : next + span (cut' ∷ cuts) ≡ end = omega arith in
    let order' : InOrder (next + span (cut' ∷ cuts)) (committed es) = subst (λ y. InOrder y (committed es)) (sym lower) order in
    let is : s ≡ t = head_read x (Data flags payload) (place_all next fs ++ committed es) s among.0 chain.0 (rest_in_order next (cut' ∷ cuts) fs es (pieces_cut false (cut' ∷ cuts) fs pieces.1) order') (omega arith) in
    let ends : end_of s ≡ next = ap end_of is in
    let a' : Assembly = after a (Data (flags_of first (cut' ∷ cuts)) payload) in
    let same : heard a (s ∷ ss) ≡ heard a' ss = ap (λ (y : Placed). heard (after a y.frame) ss) is ∙ ap (λ y. heard (after a (Data y payload)) ss) pieces.0.0 in
    let chain' : Chain next q ss = subst (λ y. Chain y q ss) ends chain.1 in
    let among' : AllAmong (place_all next fs ++ committed es) ss = later_only (t ∷ []) (place_all next fs ++ committed es) ss next q (omega arith, tt) chain' among.1 in
    let long' : 0 < span (cut' ∷ cuts) = omega (arith, pos.1.0) in
    let made = reads_on q es k makes false next (cut' ∷ cuts) fs a' ss pos.1 long' pieces.1 order' chain' among' in
    let given : a'.given ≡ a.given = more_given first a.begun a.given cut' cuts payload in
    let parts : part false a'.begun (cut' ∷ cuts) fs end q ≡ part first a.begun (cut ∷ (cut' ∷ cuts)) (Data flags payload ∷ fs) end q =
    ap (λ b. cond (b && nat_le end q) (option_to_list (joined false a'.begun fs)) []) (sym (eqb-suc (length fs) (length (cut' ∷ cuts))))
    ∙ ap (λ o. cond (nat_eq (length (Data flags payload ∷ fs)) (length (cut ∷ (cut' ∷ cuts))) && nat_le end q) (option_to_list o) []) (more_joined first a.begun a.given cut' cuts flags payload fs) in
    ap (λ (y : Assembly). y.given) same ∙ made
    ∙ ap (λ y. a'.given ++ (part false a'.begun (cut' ∷ cuts) fs y q ++ messages y q es)) lower
    ∙ ap (λ g. g ++ (part false a'.begun (cut' ∷ cuts) fs end q ++ messages end q es)) given
    ∙ ap (λ m. a.given ++ (m ++ messages end q es)) parts

-- ---- from within an entry

pub long_rest : (first : Bool) (x : ℕ) (cuts : List ℕ) (fs : List Frame) (s : Placed) → ArePieces first cuts fs → AllByRecursion (λ cut. 0 < cut) cuts → Among s (place_all x fs) → 0 < span cuts
long_rest first x cuts [] s h pos a = absurd a
long_rest first x [] (f ∷ fs) s h pos a = absurd h
long_rest first x (cut ∷ cuts) (f ∷ fs) s h pos a = omega (arith, pos.0)

unjoined : (b : Option (List ℕ)) (cuts : List ℕ) (fs : List Frame) (end q : ℕ) → b ≡ None → part false b cuts fs end q ≡ []
unjoined b cuts fs end q e =
    ap (λ o. cond (nat_eq (length fs) (length cuts) && nat_le end q) (option_to_list (joined false o fs)) []) e
    ∙ elim (nat_eq (length fs) (length cuts) && nat_le end q) as (λ c. cond c (option_to_list (joined false None fs)) [] ≡ []) [ true ↦ refl | false ↦ refl ]

skips : (q : ℕ) (es : List Entry) → AllByRecursion IsEntry es → Makes q es → (first : Bool) (x : ℕ) (cuts : List ℕ) (fs : List Frame) (a : Assembly) (c : ℕ) (s : Placed) (ss : List Placed) → a.begun ≡ None → AllByRecursion (λ cut. 0 < cut) cuts → ArePieces first cuts fs → InOrder (x + span cuts) (committed es) → x < c → Chain c q (s ∷ ss) → Among s (place_all x fs) → AllAmong (place_all x fs ++ committed es) (s ∷ ss) → (heard a (s ∷ ss)).given ≡ a.given ++ messages (x + span cuts) q es
skips q es k makes first x cuts [] a c s ss b pos pieces order l chain here among = absurd here
skips q es k makes first x [] (f ∷ fs) a c s ss b pos pieces order l chain here among = absurd pieces
skips q es k makes first x (cut ∷ cuts) (f ∷ fs) a c s ss b pos pieces order l chain (inl e) among = let at : s.at ≡ x = ap (λ y. y.at) e in absurd (omega (arith, chain.0))
skips q es k makes first x (cut ∷ cuts) (f ∷ fs) a c s ss b pos pieces order l chain (inr here) among =
    let length_is : aligned (frame_length f) ≡ aligned cut = ap aligned (pieces_cut first (cut ∷ cuts) (f ∷ fs) pieces).0 in
    let next : ℕ = x + aligned (frame_length f) in
    let lower : next + span cuts ≡ x + span (cut ∷ cuts) = omega arith in
    let order' : InOrder (next + span cuts) (committed es) = subst (λ y. InOrder y (committed es)) (sym lower) order in
    let among' : AllAmong (place_all next fs ++ committed es) (s ∷ ss) = later_only (record { at = x; frame = f } ∷ []) (place_all next fs ++ committed es) (s ∷ ss) c q (l, tt) chain among in
    ⊎_elim
    (λ (m : next < c). skips q es k makes false next cuts fs a c s ss b pos.1 pieces.1 order' m chain here among' ∙ ap (λ y. a.given ++ messages y q es) lower)
    (λ (m : c ≤ next).
    let low : next ≤ s.at = in_order_from next (place_all next fs) s (placed_in_order next fs) here in
    let at : c ≡ next = omega (arith, chain.0) in
    let made = reads_on q es k makes false next cuts fs a (s ∷ ss) pos.1 (long_rest false next cuts fs s pieces.1 pos.1 here) pieces.1 order' (subst (λ y. Chain y q (s ∷ ss)) at chain) among' in
    made ∙ ap (λ m. a.given ++ (m ++ messages (next + span cuts) q es)) (unjoined a.begun cuts fs (next + span cuts) q b) ∙ ap (λ y. a.given ++ messages y q es) lower)
    (cases_lt next c)

-- ---- a padding

-- what is read of a padding is the padding, and no assembler hears it
pub record ReadsPadding (x : ℕ) (cuts : List ℕ) (s : Placed) : Type 0 where
  pub end : end_of s ≡ x + span cuts
  pub unheard : (a : Assembly) → after a s.frame ≡ a

pub padding_read : (x : ℕ) (cuts : List ℕ) (fs : List Frame) (s : Placed) → ArePadding cuts fs → Among s (place_all x fs) → ReadsPadding x cuts s
padding_read x cuts [] s h a = absurd a
padding_read x [] (f ∷ fs) s h a = absurd h
padding_read x (cut ∷ (more ∷ cuts)) (f ∷ fs) s h a = absurd h
padding_read x (cut ∷ []) (f ∷ (g ∷ fs)) s h a = absurd h
padding_read x (cut ∷ []) (Data flags payload ∷ []) s h a = absurd h
padding_read x (cut ∷ []) (Pad n ∷ []) s h (inl e) =
    let lengths : aligned n ≡ aligned cut = ap aligned h in
    let ends : end_of s ≡ x + aligned n = ap end_of e in
    record { end = omega arith; unheard = λ b. ap (λ (y : Placed). after b y.frame) e }
padding_read x (cut ∷ []) (Pad n ∷ []) s h (inr a) = absurd a

-- ---- the whole list

-- an entry that is a message and starts at c
between_at : (c q : ℕ) (e : Entry) → e.padding ≡ false → c ≤ e.start → is_between c q e ≡ (is_whole e && nat_le (entry_end e) q)
between_at c q e p l =
    ap (λ b. not b && is_whole e && nat_le c e.start && nat_le (entry_end e) q) p
    ∙ ap (λ b. is_whole e && b && nat_le (entry_end e) q) (le-leb c e.start l)
    ∙ ap (λ b. b && nat_le (entry_end e) q) (and-true (is_whole e))

padding_between : (c q : ℕ) (e : Entry) → e.padding ≡ true → is_between c q e ≡ false
padding_between c q e p = ap (λ b. not b && is_whole e && nat_le c e.start && nat_le (entry_end e) q) p

pub entry_before : (e : Entry) → IsEntry e → AllByRecursion (λ y. y.at < entry_end e) (place_all e.start e.frames)
entry_before e is = placed_before e.start e.cuts e.frames (are_cut e.padding e.cuts e.frames is.frames) is.cuts

in_entry : (term p tail q : ℕ) (e : Entry) (es : List Entry) → Tiles term p tail (e ∷ es) → AllByRecursion IsEntry (e ∷ es) → Makes q es → (c : ℕ) (s : Placed) (ss : List Placed) (a : Assembly) → a.begun ≡ None → Chain c q (s ∷ ss) → AllAmong (committed (e ∷ es)) (s ∷ ss) → (padding : Bool) → e.padding ≡ padding → Among s (place_all e.start e.frames) → (heard a (s ∷ ss)).given ≡ a.given ++ messages c q (e ∷ es)
in_entry term p tail q e es t k rest c s ss a b chain among true is here =
    let before : AllByRecursion (λ y. y.at < entry_end e) (place_all e.start e.frames) = entry_before e k.0 in
    let padded : ArePadding e.cuts e.frames = subst (λ x. HaveFrames x e.cuts e.frames) is k.0.frames in
    let r : ReadsPadding e.start e.cuts s = padding_read e.start e.cuts e.frames s padded here in
    let chain' : Chain (entry_end e) q ss = subst (λ y. Chain y q ss) r.end chain.1 in
    let among' : AllAmong (committed es) ss = later_only (place_all e.start e.frames) (committed es) ss (entry_end e) q before chain' among.1 in
    let low : s.at < entry_end e = all_at (λ y. y.at < entry_end e) s (place_all e.start e.frames) before here in
    ap (λ (y : Assembly). (heard y ss).given) (r.unheard a) ∙ rest (entry_end e) ss a b chain' among'
    ∙ ap (λ m. a.given ++ m) (messages_from (entry_end e) c q term (entry_end e) tail es t.2 (omega arith) (omega (arith, chain.0)) ∙ sym (messages_skip c q e es (padding_between c q e is)))
in_entry term p tail q e es t k rest c s ss a b chain among false is here =
    let order : InOrder (entry_end e) (committed es) = committed_in_order term (entry_end e) tail es t.2 k.1 in
    let before : AllByRecursion (λ y. y.at < entry_end e) (place_all e.start e.frames) = entry_before e k.0 in
    let pieces : ArePieces true e.cuts e.frames = subst (λ x. HaveFrames x e.cuts e.frames) is k.0.frames in
    let low : s.at < entry_end e = all_at (λ y. y.at < entry_end e) s (place_all e.start e.frames) before here in
    let high : e.start ≤ s.at = in_order_from e.start (place_all e.start e.frames) s (placed_in_order e.start e.frames) here in
    let later : messages (entry_end e) q es ≡ messages c q es = messages_from (entry_end e) c q term (entry_end e) tail es t.2 (omega arith) (omega (arith, chain.0)) in
    ⊎_elim
    (λ (l : e.start < c).
    skips q es k.1 rest true e.start e.cuts e.frames a c s ss b k.0.cuts pieces order l chain here among
    ∙ ap (λ m. a.given ++ m) (later ∙ sym (messages_skip c q e es (not_between c q e (λ m n. omega arith)))))
    (λ (l : c ≤ e.start).
    let at : c ≡ e.start = omega (arith, chain.0) in
    let made = reads_on q es k.1 rest true e.start e.cuts e.frames a (s ∷ ss) k.0.cuts k.0.long pieces order (subst (λ y. Chain y q (s ∷ ss)) at chain) among in
    let tests : is_between c q e ≡ (is_whole e && nat_le (entry_end e) q) = between_at c q e is l in
    let parts : part true a.begun e.cuts e.frames (entry_end e) q ++ messages (entry_end e) q es ≡ messages c q (e ∷ es) =
    ⊎_elim
    (λ (y : is_between c q e ≡ true). ap (λ m. m ++ messages (entry_end e) q es) (cond-true (is_whole e && nat_le (entry_end e) q) (message_of e ∷ []) [] (sym tests ∙ y)) ∙ ap (λ m. message_of e ∷ m) later ∙ sym (messages_take c q e es y))
    (λ (n : is_between c q e ≡ false). ap (λ m. m ++ messages (entry_end e) q es) (cond-false (is_whole e && nat_le (entry_end e) q) (message_of e ∷ []) [] (sym tests ∙ n)) ∙ later ∙ sym (messages_skip c q e es n))
    (cases_Bool (is_between c q e)) in
    made ∙ ap (λ m. a.given ++ m) parts)
    (cases_lt e.start c)

pub makes : (term p tail q : ℕ) (es : List Entry) → Tiles term p tail es → AllByRecursion IsEntry es → Makes q es
makes term p tail q [] t k c [] a b chain among = sym (append-nil a.given)
makes term p tail q [] t k c (s ∷ ss) a b chain among = absurd among.0
makes term p tail q (e ∷ es) t k c [] a b chain among = sym (ap (λ m. a.given ++ m) (messages_none c q (e ∷ es) k (omega (arith, chain))) ∙ append-nil a.given)
makes term p tail q (e ∷ es) t k c (s ∷ ss) a b chain among =
    ⊎_elim
    (λ (here : Among s (place_all e.start e.frames)). in_entry term p tail q e es t k (makes term (entry_end e) tail q es t.2 k.1) c s ss a b chain among e.padding refl here)
    (λ (there : Among s (committed es)).
    let order : InOrder (entry_end e) (committed es) = committed_in_order term (entry_end e) tail es t.2 k.1 in
    let later : entry_end e ≤ s.at = in_order_from (entry_end e) (committed es) s order there in
    let past : entry_end e ≤ c = omega (arith, chain.0) in
    let among' : AllAmong (committed es) (s ∷ ss) = later_only (place_all e.start e.frames) (committed es) (s ∷ ss) c q (all_weaker (λ y. y.at < entry_end e) (λ y. y.at < c) (λ y h. omega arith) (place_all e.start e.frames) (entry_before e k.0)) chain among in
    makes term (entry_end e) tail q es t.2 k.1 c (s ∷ ss) a b chain among' ∙ ap (λ m. a.given ++ m) (sym (messages_skip c q e es (not_between c q e (λ low high. omega (arith, k.0.long))))))
    (among_cases s (place_all e.start e.frames) (committed es) among.0)

pub gives_messages : GivesMessages
gives_messages term start tail j q es read t k chain among = makes term start tail q es t k j read nothing_heard refl chain among
