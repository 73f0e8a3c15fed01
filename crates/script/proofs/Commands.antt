-- The commands of lines: reading one, and being said, are the same.
use Rattle.std.proofs.Common.{◌≡◌, ℕ, Bool, true, false, cond, List, [], ◌∷◌, Option, Some, None, inl, inr, refl, sym, ap, subst, ◌∙◌}
use Rattle.std.specs.Prelude.{bytes_eq, codes, nat_lt}
use Rattle.std.proofs.lemmas.Bool.{cond-false, cond-true, ltb-true, lt-ltb}
use Rattle.script.specs.Meaning.{CommandContent, is_group, Group, Connect, Disconnect, Close, Limit, Offer, OfferSize, Claim, Commit, Abort, Read, Join, Leave, Send, Deliver, Raw, Tick, Reply, RawBack, Poll, Image}
use Rattle.script.specs.Pieces.{words}
use Rattle.text.specs.Decimals.{◌>>=◌}
use Rattle.script.specs.Values.{hex_of}
use Rattle.script.specs.Reading.{word_at, number_at, most_wide, end_of, whole, last_number, last_bytes, named_of, raw_of, raw_back_of, offer_hex_of, offer_size_of, form_of, offer_of, send_of, deliver_of, reply_of, bare_of, party_alone_of, party_and_number_of, reader_of, left_of, of_party, numbered_of, plain_of, command_of, command_at, group_of, group_size_of, placed}
use Rattle.script.specs.Language.{IsPartyNumber, IsReader, IsUpTo, IsWide, IsHex, MayStand, SayCommand, Says}
use Rattle.script.proofs.Options.{bind_some, some_bind, chosen, guarded_step}
use Rattle.script.proofs.Words.{hex_found, hex_only}
use Rattle.script.proofs.Fields.{same_name, word_found, number_at_found, number_at_only, whole_found, whole_only}

-- a command that was given is the one that was said
given : (ws : List (List ℕ)) (x o : CommandContent) → Some x ≡ Some o → SayCommand ws x → SayCommand ws o
given ws x o e says =
    let same : x ≡ o = cc in
    subst (SayCommand ws) same says

last_number_found : (ws : List (List ℕ)) (n : ℕ) → last_number ws ≡ Some n → (w : List ℕ) × (ws ≡ w ∷ []) × IsWide w n
unfolding last_number
last_number_found ws n e =
    let v = bind_some (number_at most_wide ws) (λ v. whole v.0 v.1) n e in
    let a = number_at_found most_wide ws v.0 v.1 in
    let end = whole_found v.0.0 v.0.1 n v.2 in
    (a.0, a.1 ∙ ap (λ rest. a.0 ∷ rest) end.0, subst (IsWide a.0) end.1 a.2)

last_number_only : (w : List ℕ) (n : ℕ) → IsWide w n → last_number (w ∷ []) ≡ Some n
unfolding last_number
last_number_only w n is = some_bind (number_at most_wide (w ∷ [])) _ (n, []) (number_at_only most_wide w [] n is) ∙ whole_only n

group_size_found : (ws : List (List ℕ)) (n : ℕ) → group_size_of ws ≡ Some n → (w : List ℕ) × (ws ≡ w ∷ []) × IsUpTo 8 w n
unfolding group_size_of
group_size_found ws n e =
    let v = bind_some (number_at 8 ws) (λ v. whole v.0 v.1) n e in
    let a = number_at_found 8 ws v.0 v.1 in
    let end = whole_found v.0.0 v.0.1 n v.2 in
    (a.0, a.1 ∙ ap (λ rest. a.0 ∷ rest) end.0, subst (IsUpTo 8 a.0) end.1 a.2)

group_size_only : (w : List ℕ) (n : ℕ) → IsUpTo 8 w n → group_size_of (w ∷ []) ≡ Some n
unfolding group_size_of
group_size_only w n is = some_bind (number_at 8 (w ∷ [])) _ (n, []) (number_at_only 8 w [] n is) ∙ whole_only n

group_found : (ws : List (List ℕ)) (o : CommandContent) → group_of ws ≡ Some o → SayCommand (codes "group" ∷ ws) o
unfolding group_of
group_found ws o e =
    let n = bind_some (group_size_of ws) (λ size. cond (nat_lt 0 size) (Some (Group size)) None) o e in
    let a = group_size_found ws n.0 n.1 in
    let h = guarded_step (nat_lt 0 n.0) (Some (Group n.0)) o n.2 in
    given (codes "group" ∷ ws) (Group n.0) o h.1 (a.0, ap (λ rest. codes "group" ∷ rest) a.1, a.2, ltb-true 0 n.0 h.0)

send_found : (ws : List (List ℕ)) (o : CommandContent) → send_of ws ≡ Some o → SayCommand (codes "send" ∷ ws) o
unfolding send_of
send_found ws o e =
    let now = bind_some (last_number ws) (λ now. Some (Send now)) o e in
    let a = last_number_found ws now.0 now.1 in
    given (codes "send" ∷ ws) (Send now.0) o now.2 (a.0, ap (λ rest. codes "send" ∷ rest) a.1, a.2)

reply_found : (ws : List (List ℕ)) (o : CommandContent) → reply_of ws ≡ Some o → SayCommand (codes "reply" ∷ ws) o
unfolding reply_of
reply_found ws o e =
    let k = bind_some (number_at most_wide ws) (λ k. last_number k.1 >>= λ now. Some (Reply k.0 now)) o e in
    let a = number_at_found most_wide ws k.0 k.1 in
    let now = bind_some (last_number k.0.1) (λ now. Some (Reply k.0.0 now)) o k.2 in
    let b = last_number_found k.0.1 now.0 now.1 in
    given (codes "reply" ∷ ws) (Reply k.0.0 now.0) o now.2
    (a.0, b.0, ap (λ rest. codes "reply" ∷ rest) (a.1 ∙ ap (λ rest. a.0 ∷ rest) b.1), a.2, b.2)

deliver_found : (ws : List (List ℕ)) (o : CommandContent) → deliver_of ws ≡ Some o → SayCommand (codes "deliver" ∷ ws) o
unfolding deliver_of
deliver_found ws o e =
    let k = bind_some (number_at most_wide ws) (λ k. number_at 7 k.1 >>= λ r. last_number r.1 >>= λ now. Some (Deliver k.0 r.0 now)) o e in
    let a = number_at_found most_wide ws k.0 k.1 in
    let r = bind_some (number_at 7 k.0.1) (λ r. last_number r.1 >>= λ now. Some (Deliver k.0.0 r.0 now)) o k.2 in
    let b = number_at_found 7 k.0.1 r.0 r.1 in
    let now = bind_some (last_number r.0.1) (λ now. Some (Deliver k.0.0 r.0.0 now)) o r.2 in
    let c = last_number_found r.0.1 now.0 now.1 in
    given (codes "deliver" ∷ ws) (Deliver k.0.0 r.0.0 now.0) o now.2
    (a.0, b.0, c.0, ap (λ rest. codes "deliver" ∷ rest) (a.1 ∙ ap (λ rest. a.0 ∷ rest) (b.1 ∙ ap (λ rest. b.0 ∷ rest) c.1)), a.2, b.2, c.2)

-- the words of an offer, whose form passes a test
offered : (a form name b : List ℕ) (ws : List (List ℕ)) → bytes_eq form name ≡ true → ws ≡ b ∷ [] → codes "offer" ∷ a ∷ form ∷ ws ≡ codes "offer" ∷ a ∷ name ∷ b ∷ []
offered a form name b ws e last = ap (λ f. codes "offer" ∷ a ∷ f ∷ ws) (same_name form name e) ∙ ap (λ rest. codes "offer" ∷ a ∷ name ∷ rest) last

bytes_found : (ws : List (List ℕ)) (m : List ℕ) → last_bytes ws ≡ Some m → (b : List ℕ) × (ws ≡ b ∷ []) × IsHex b m
unfolding last_bytes
bytes_found ws m e =
    let digits = bind_some (word_at ws) (λ digits. hex_of digits.0 >>= λ bytes. whole bytes digits.1) m e in
    let bytes = bind_some (hex_of digits.0.0) (λ bytes. whole bytes digits.0.1) m digits.2 in
    let end = whole_found bytes.0 digits.0.1 m bytes.2 in
    (digits.0.0, word_found ws digits.0 digits.1 ∙ ap (λ rest. digits.0.0 ∷ rest) end.0, subst (IsHex digits.0.0) end.1 (hex_found digits.0.0 bytes.0 bytes.1))

bytes_only : (b m : List ℕ) → IsHex b m → last_bytes (b ∷ []) ≡ Some m
unfolding last_bytes word_at
bytes_only b m is = some_bind (hex_of b) _ m (hex_only b m is) ∙ whole_only m

hex_offered : (p : ℕ) (ws : List (List ℕ)) (o : CommandContent) → offer_hex_of p ws ≡ Some o → (b : List ℕ) × (m : List ℕ) × (ws ≡ b ∷ []) × IsHex b m × (Offer p m ≡ o)
unfolding offer_hex_of
hex_offered p ws o e =
    let m = bind_some (last_bytes ws) (λ message. Some (Offer p message)) o e in
    let b = bytes_found ws m.0 m.1 in
    let same : Offer p m.0 ≡ o = cc in
    (b.0, m.0, b.1, b.2, same)

raw_found : (ws : List (List ℕ)) (o : CommandContent) → raw_of ws ≡ Some o → SayCommand (codes "raw" ∷ ws) o
unfolding raw_of
raw_found ws o e =
    let r = bind_some (number_at 7 ws) (λ r. number_at most_wide r.1 >>= λ now. last_bytes now.1 >>= λ bytes. Some (Raw r.0 now.0 bytes)) o e in
    let a = number_at_found 7 ws r.0 r.1 in
    let now = bind_some (number_at most_wide r.0.1) (λ now. last_bytes now.1 >>= λ bytes. Some (Raw r.0.0 now.0 bytes)) o r.2 in
    let b = number_at_found most_wide r.0.1 now.0 now.1 in
    let m = bind_some (last_bytes now.0.1) (λ bytes. Some (Raw r.0.0 now.0.0 bytes)) o now.2 in
    let c = bytes_found now.0.1 m.0 m.1 in
    let same : Raw r.0.0 now.0.0 m.0 ≡ o = cc in
    subst (SayCommand (codes "raw" ∷ ws)) same
    (a.0, b.0, c.0, ap (λ rest. codes "raw" ∷ rest) (a.1 ∙ ap (λ rest. a.0 ∷ rest) (b.1 ∙ ap (λ rest. b.0 ∷ rest) c.1)), a.2, b.2, c.2)

raw_back_found : (ws : List (List ℕ)) (o : CommandContent) → raw_back_of ws ≡ Some o → SayCommand (codes "rawback" ∷ ws) o
unfolding raw_back_of
raw_back_found ws o e =
    let now = bind_some (number_at most_wide ws) (λ now. last_bytes now.1 >>= λ bytes. Some (RawBack now.0 bytes)) o e in
    let a = number_at_found most_wide ws now.0 now.1 in
    let m = bind_some (last_bytes now.0.1) (λ bytes. Some (RawBack now.0.0 bytes)) o now.2 in
    let b = bytes_found now.0.1 m.0 m.1 in
    let same : RawBack now.0.0 m.0 ≡ o = cc in
    subst (SayCommand (codes "rawback" ∷ ws)) same (a.0, b.0, ap (λ rest. codes "rawback" ∷ rest) (a.1 ∙ ap (λ rest. a.0 ∷ rest) b.1), a.2, b.2)

size_offered : (p : ℕ) (ws : List (List ℕ)) (o : CommandContent) → offer_size_of p ws ≡ Some o → (b : List ℕ) × (n : ℕ) × (ws ≡ b ∷ []) × IsWide b n × (OfferSize p n ≡ o)
unfolding offer_size_of
size_offered p ws o e =
    let size = bind_some (last_number ws) (λ size. Some (OfferSize p size)) o e in
    let b = last_number_found ws size.0 size.1 in
    let same : OfferSize p size.0 ≡ o = cc in
    (b.0, size.0, b.1, b.2, same)

-- an offer, behind its publisher
form_found : (a : List ℕ) (p : ℕ) (form : List ℕ) (ws : List (List ℕ)) (o : CommandContent) → IsPartyNumber a p → form_of p form ws ≡ Some o → SayCommand (codes "offer" ∷ a ∷ form ∷ ws) o
unfolding form_of
form_found a p form ws o is_a e = elim (chosen (bytes_eq form (codes "hex")) _ _ _ e) [
  | inl h ↦
      let b = hex_offered p ws o h.1 in
      subst (SayCommand (codes "offer" ∷ a ∷ form ∷ ws)) b.4 (a, b.0, offered a form (codes "hex") b.0 ws h.0 b.2, is_a, b.3)
  | inr other ↦
      let h = guarded_step (bytes_eq form (codes "size")) (offer_size_of p ws) o other.1 in
      let b = size_offered p ws o h.1 in
      subst (SayCommand (codes "offer" ∷ a ∷ form ∷ ws)) b.4 (a, b.0, offered a form (codes "size") b.0 ws h.0 b.2, is_a, b.3)
]

offer_found : (ws : List (List ℕ)) (o : CommandContent) → offer_of ws ≡ Some o → SayCommand (codes "offer" ∷ ws) o
unfolding offer_of
offer_found ws o e =
    let p = bind_some (number_at 7 ws) (λ p. word_at p.1 >>= λ form. form_of p.0 form.0 form.1) o e in
    let a = number_at_found 7 ws p.0 p.1 in
    let form = bind_some (word_at p.0.1) (λ form. form_of p.0.0 form.0 form.1) o p.2 in
    let whole : ws ≡ a.0 ∷ form.0.0 ∷ form.0.1 = a.1 ∙ ap (λ rest. a.0 ∷ rest) (word_found p.0.1 form.0 form.1) in
    subst (λ ws. SayCommand (codes "offer" ∷ ws) o) (sym whole) (form_found a.0 p.0.0 form.0.0 form.0.1 o a.2 form.2)

-- a name that passes a test is that name
named_says : (name : List ℕ) (word : List ℕ) (ws : List (List ℕ)) (o : CommandContent) → bytes_eq name word ≡ true → SayCommand (word ∷ ws) o → SayCommand (name ∷ ws) o
named_says name word ws o e says = subst (λ n. SayCommand (n ∷ ws) o) (sym (same_name name word e)) says

bare_found : (name : List ℕ) (o : CommandContent) → bare_of name ≡ Some o → SayCommand (name ∷ []) o
unfolding bare_of
bare_found name o e = elim (chosen (bytes_eq name (codes "connect")) _ _ _ e) [
  | inl h ↦ named_says name (codes "connect") [] o h.0 (given (codes "connect" ∷ []) Connect o h.1 refl)
  | inr f1 ↦ elim (chosen (bytes_eq name (codes "disconnect")) _ _ _ f1.1) [
    | inl h ↦ named_says name (codes "disconnect") [] o h.0 (given (codes "disconnect" ∷ []) Disconnect o h.1 refl)
    | inr f2 ↦ elim (chosen (bytes_eq name (codes "close")) _ _ _ f2.1) [
      | inl h ↦ named_says name (codes "close") [] o h.0 (given (codes "close" ∷ []) Close o h.1 refl)
      | inr f3 ↦
          let h = guarded_step (bytes_eq name (codes "limit")) (Some Limit) o f3.1 in
          named_says name (codes "limit") [] o h.0 (given (codes "limit" ∷ []) Limit o h.1 refl)
    ]
  ]
]

reader_found : (name a : List ℕ) (r : ℕ) (o : CommandContent) → IsReader a r → reader_of name r ≡ Some o → SayCommand (name ∷ a ∷ []) o
unfolding reader_of
reader_found name a r o is e = elim (chosen (bytes_eq name (codes "read")) _ _ _ e) [
  | inl h ↦ named_says name (codes "read") (a ∷ []) o h.0 (given (codes "read" ∷ a ∷ []) (Read r) o h.1 (a, refl, is))
  | inr f1 ↦ elim (chosen (bytes_eq name (codes "join")) _ _ _ f1.1) [
    | inl h ↦ named_says name (codes "join") (a ∷ []) o h.0 (given (codes "join" ∷ a ∷ []) (Join r) o h.1 (a, refl, is))
    | inr f2 ↦
        let h = guarded_step (bytes_eq name (codes "leave")) (Some (Leave r)) o f2.1 in
        named_says name (codes "leave") (a ∷ []) o h.0 (given (codes "leave" ∷ a ∷ []) (Leave r) o h.1 (a, refl, is))
  ]
]

party_alone_found : (name a : List ℕ) (p : ℕ) (o : CommandContent) → IsPartyNumber a p → party_alone_of name p ≡ Some o → SayCommand (name ∷ a ∷ []) o
unfolding party_alone_of
party_alone_found name a p o is e = elim (chosen (bytes_eq name (codes "commit")) _ _ _ e) [
  | inl h ↦ named_says name (codes "commit") (a ∷ []) o h.0 (given (codes "commit" ∷ a ∷ []) (Commit p) o h.1 (a, refl, is))
  | inr f1 ↦ elim (chosen (bytes_eq name (codes "abort")) _ _ _ f1.1) [
    | inl h ↦ named_says name (codes "abort") (a ∷ []) o h.0 (given (codes "abort" ∷ a ∷ []) (Abort p) o h.1 (a, refl, is))
    | inr f2 ↦ elim (chosen (bytes_eq name (codes "poll")) _ _ _ f2.1) [
      | inl h ↦ named_says name (codes "poll") (a ∷ []) o h.0 (given (codes "poll" ∷ a ∷ []) (Poll p) o h.1 (a, refl, is))
      | inr f3 ↦ elim (chosen (bytes_eq name (codes "image")) _ _ _ f3.1) [
        | inl h ↦ named_says name (codes "image") (a ∷ []) o h.0 (given (codes "image" ∷ a ∷ []) (Image p) o h.1 (a, refl, is))
        | inr f4 ↦
            let h = guarded_step (nat_lt 0 p) (reader_of name p) o f4.1 in
            reader_found name a p o (is, ltb-true 0 p h.0) h.1
      ]
    ]
  ]
]

party_and_number_found : (name a b : List ℕ) (p n : ℕ) (o : CommandContent) → IsPartyNumber a p → IsWide b n → party_and_number_of name p n ≡ Some o → SayCommand (name ∷ a ∷ b ∷ []) o
unfolding party_and_number_of
party_and_number_found name a b p n o is_a is_b e = elim (chosen (bytes_eq name (codes "claim")) _ _ _ e) [
  | inl h ↦ named_says name (codes "claim") (a ∷ b ∷ []) o h.0 (given (codes "claim" ∷ a ∷ b ∷ []) (Claim p n) o h.1 (a, b, refl, is_a, is_b))
  | inr f1 ↦
      let h = guarded_step (bytes_eq name (codes "tick")) (Some (Tick p n)) o f1.1 in
      named_says name (codes "tick") (a ∷ b ∷ []) o h.0 (given (codes "tick" ∷ a ∷ b ∷ []) (Tick p n) o h.1 (a, b, refl, is_a, is_b))
]

behind_party : (name a : List ℕ) (p : ℕ) (ws : List (List ℕ)) (o : CommandContent) → IsPartyNumber a p
    → left_of (end_of ws) (party_alone_of name p) (last_number ws >>= λ n. party_and_number_of name p n) ≡ Some o → SayCommand (name ∷ a ∷ ws) o
unfolding end_of
behind_party name a p [] o is e = party_alone_found name a p o is e
behind_party name a p (w ∷ ws) o is e =
    let n = bind_some (last_number (w ∷ ws)) (λ n. party_and_number_of name p n) o e in
    let b = last_number_found (w ∷ ws) n.0 n.1 in
    subst (λ rest. SayCommand (name ∷ a ∷ rest) o) (sym b.1) (party_and_number_found name a b.0 p n.0 o is b.2 n.2)

of_party_found : (name : List ℕ) (ws : List (List ℕ)) (o : CommandContent) → of_party name ws ≡ Some o → SayCommand (name ∷ ws) o
unfolding of_party
of_party_found name ws o e =
    let p = bind_some (number_at 7 ws) (λ p. left_of (end_of p.1) (party_alone_of name p.0) (last_number p.1 >>= λ n. party_and_number_of name p.0 n)) o e in
    let a = number_at_found 7 ws p.0 p.1 in
    subst (λ ws. SayCommand (name ∷ ws) o) (sym a.1) (behind_party name a.0 p.0.0 p.0.1 o a.2 p.2)

numbered_found : (name : List ℕ) (ws : List (List ℕ)) (o : CommandContent) → numbered_of name ws ≡ Some o → SayCommand (name ∷ ws) o
unfolding numbered_of
numbered_found name ws o e = elim (chosen (bytes_eq name (codes "send")) _ _ _ e) [
  | inl h ↦ named_says name (codes "send") ws o h.0 (send_found ws o h.1)
  | inr f1 ↦ elim (chosen (bytes_eq name (codes "deliver")) _ _ _ f1.1) [
    | inl h ↦ named_says name (codes "deliver") ws o h.0 (deliver_found ws o h.1)
    | inr f2 ↦ elim (chosen (bytes_eq name (codes "reply")) _ _ _ f2.1) [
      | inl h ↦ named_says name (codes "reply") ws o h.0 (reply_found ws o h.1)
      | inr f3 ↦ elim (chosen (bytes_eq name (codes "group")) _ _ _ f3.1) [
        | inl h ↦ named_says name (codes "group") ws o h.0 (group_found ws o h.1)
        | inr h ↦ of_party_found name ws o h.1
      ]
    ]
  ]
]

plain_found : (name : List ℕ) (ws : List (List ℕ)) (o : CommandContent) → plain_of name ws ≡ Some o → SayCommand (name ∷ ws) o
unfolding plain_of end_of
plain_found name [] o e = bare_found name o e
plain_found name (w ∷ ws) o e = numbered_found name (w ∷ ws) o e

named_found : (name : List ℕ) (ws : List (List ℕ)) (o : CommandContent) → named_of name ws ≡ Some o → SayCommand (name ∷ ws) o
unfolding named_of
named_found name ws o e = elim (chosen (bytes_eq name (codes "offer")) _ _ _ e) [
  | inl h ↦ named_says name (codes "offer") ws o h.0 (offer_found ws o h.1)
  | inr f1 ↦ elim (chosen (bytes_eq name (codes "raw")) _ _ _ f1.1) [
    | inl h ↦ named_says name (codes "raw") ws o h.0 (raw_found ws o h.1)
    | inr f2 ↦ elim (chosen (bytes_eq name (codes "rawback")) _ _ _ f2.1) [
      | inl h ↦ named_says name (codes "rawback") ws o h.0 (raw_back_found ws o h.1)
      | inr h ↦ plain_found name ws o h.1
    ]
  ]
]

pub command_found : (line : List ℕ) (command : CommandContent) → command_of line ≡ Some command → Says line command
unfolding command_of
command_found line command e =
    let name = bind_some (word_at (words line)) (λ name. named_of name.0 name.1) command e in
    let whole : words line ≡ name.0.0 ∷ name.0.1 = word_found (words line) name.0 name.1 in
    subst (λ ws. SayCommand ws command) (sym whole) (named_found name.0.0 name.0.1 command name.2)

-- the command that words say
read_words : List (List ℕ) → Option CommandContent
read_words ws = word_at ws >>= λ name. named_of name.0 name.1

words_only : (ws : List (List ℕ)) (command : CommandContent) → SayCommand ws command → read_words ws ≡ Some command
unfolding read_words word_at end_of named_of plain_of bare_of numbered_of of_party party_alone_of reader_of party_and_number_of offer_of form_of raw_of raw_back_of offer_hex_of offer_size_of send_of deliver_of reply_of group_of
words_only ws (Group n) (a, is, is_a, above) =
    ap read_words is ∙ some_bind (group_size_of (a ∷ [])) _ n (group_size_only a n is_a)
    ∙ cond-true (nat_lt 0 n) (Some (Group n)) None (lt-ltb 0 n above)
words_only ws Connect is = ap read_words is
words_only ws Disconnect is = ap read_words is
words_only ws Close is = ap read_words is
words_only ws Limit is = ap read_words is
words_only ws (Offer p m) (a, b, is, is_a, is_b) =
    ap read_words is
    ∙ some_bind (number_at 7 (a ∷ codes "hex" ∷ b ∷ [])) _ (p, codes "hex" ∷ b ∷ []) (number_at_only 7 a (codes "hex" ∷ b ∷ []) p is_a)
    ∙ some_bind (last_bytes (b ∷ [])) _ m (bytes_only b m is_b)
words_only ws (OfferSize p n) (a, b, is, is_a, is_b) =
    ap read_words is
    ∙ some_bind (number_at 7 (a ∷ codes "size" ∷ b ∷ [])) _ (p, codes "size" ∷ b ∷ []) (number_at_only 7 a (codes "size" ∷ b ∷ []) p is_a)
    ∙ some_bind (last_number (b ∷ [])) _ n (last_number_only b n is_b)
words_only ws (Claim p n) (a, b, is, is_a, is_b) =
    ap read_words is
    ∙ some_bind (number_at 7 (a ∷ b ∷ [])) _ (p, b ∷ []) (number_at_only 7 a (b ∷ []) p is_a)
    ∙ some_bind (last_number (b ∷ [])) _ n (last_number_only b n is_b)
words_only ws (Commit p) (a, is, is_a) = ap read_words is ∙ some_bind (number_at 7 (a ∷ [])) _ (p, []) (number_at_only 7 a [] p is_a)
words_only ws (Abort p) (a, is, is_a) = ap read_words is ∙ some_bind (number_at 7 (a ∷ [])) _ (p, []) (number_at_only 7 a [] p is_a)
words_only ws (Read r) (a, is, (is_a, above)) =
    ap read_words is ∙ some_bind (number_at 7 (a ∷ [])) _ (r, []) (number_at_only 7 a [] r is_a)
    ∙ cond-true (nat_lt 0 r) (Some (Read r)) None (lt-ltb 0 r above)
words_only ws (Join r) (a, is, (is_a, above)) =
    ap read_words is ∙ some_bind (number_at 7 (a ∷ [])) _ (r, []) (number_at_only 7 a [] r is_a)
    ∙ cond-true (nat_lt 0 r) (Some (Join r)) None (lt-ltb 0 r above)
words_only ws (Leave r) (a, is, (is_a, above)) =
    ap read_words is ∙ some_bind (number_at 7 (a ∷ [])) _ (r, []) (number_at_only 7 a [] r is_a)
    ∙ cond-true (nat_lt 0 r) (Some (Leave r)) None (lt-ltb 0 r above)
words_only ws (Send now) (a, is, is_a) = ap read_words is ∙ some_bind (last_number (a ∷ [])) _ now (last_number_only a now is_a)
words_only ws (Deliver k r now) (a, b, c, is, is_a, is_b, is_c) =
    ap read_words is
    ∙ some_bind (number_at most_wide (a ∷ b ∷ c ∷ [])) _ (k, b ∷ c ∷ []) (number_at_only most_wide a (b ∷ c ∷ []) k is_a)
    ∙ some_bind (number_at 7 (b ∷ c ∷ [])) _ (r, c ∷ []) (number_at_only 7 b (c ∷ []) r is_b)
    ∙ some_bind (last_number (c ∷ [])) _ now (last_number_only c now is_c)
words_only ws (Raw r now m) (a, b, c, is, is_a, is_b, is_c) =
    ap read_words is
    ∙ some_bind (number_at 7 (a ∷ b ∷ c ∷ [])) _ (r, b ∷ c ∷ []) (number_at_only 7 a (b ∷ c ∷ []) r is_a)
    ∙ some_bind (number_at most_wide (b ∷ c ∷ [])) _ (now, c ∷ []) (number_at_only most_wide b (c ∷ []) now is_b)
    ∙ some_bind (last_bytes (c ∷ [])) _ m (bytes_only c m is_c)
words_only ws (RawBack now m) (a, b, is, is_a, is_b) =
    ap read_words is
    ∙ some_bind (number_at most_wide (a ∷ b ∷ [])) _ (now, b ∷ []) (number_at_only most_wide a (b ∷ []) now is_a)
    ∙ some_bind (last_bytes (b ∷ [])) _ m (bytes_only b m is_b)
words_only ws (Tick r now) (a, b, is, is_a, is_b) =
    ap read_words is
    ∙ some_bind (number_at 7 (a ∷ b ∷ [])) _ (r, b ∷ []) (number_at_only 7 a (b ∷ []) r is_a)
    ∙ some_bind (last_number (b ∷ [])) _ now (last_number_only b now is_b)
words_only ws (Reply k now) (a, b, is, is_a, is_b) =
    ap read_words is
    ∙ some_bind (number_at most_wide (a ∷ b ∷ [])) _ (k, b ∷ []) (number_at_only most_wide a (b ∷ []) k is_a)
    ∙ some_bind (last_number (b ∷ [])) _ now (last_number_only b now is_b)
words_only ws (Poll r) (a, is, is_a) = ap read_words is ∙ some_bind (number_at 7 (a ∷ [])) _ (r, []) (number_at_only 7 a [] r is_a)
words_only ws (Image r) (a, is, is_a) = ap read_words is ∙ some_bind (number_at 7 (a ∷ [])) _ (r, []) (number_at_only 7 a [] r is_a)

pub command_only : (line : List ℕ) (command : CommandContent) → Says line command → command_of line ≡ Some command
unfolding command_of read_words
command_only line command says = words_only (words line) command says

-- a command where it stands
placed_found : (first : Bool) (x o : CommandContent) → placed first x ≡ Some o → (x ≡ o) × MayStand first x
placed_found true x o e = (cc, tt)
placed_found false x o e = elim (chosen (is_group x) None (Some x) (Some o) e) [
  | inl h ↦ let wrong = h.1 in absurd (cc)
  | inr h ↦ (let same = h.1 in cc, h.0)
]

pub command_at_found : (first : Bool) (line : List ℕ) (command : CommandContent) → command_at first line ≡ Some command → Says line command × MayStand first command
unfolding command_at
command_at_found first line command e =
    let x = bind_some (command_of line) (placed first) command e in
    let p = placed_found first x.0 command x.2 in
    (subst (Says line) p.0 (command_found line x.0 x.1), subst (MayStand first) p.0 p.1)

placed_only : (first : Bool) (command : CommandContent) → MayStand first command → placed first command ≡ Some command
placed_only true command stands = refl
placed_only false command stands = cond-false (is_group command) None (Some command) stands

pub command_at_only : (first : Bool) (line : List ℕ) (command : CommandContent) → Says line command → MayStand first command → command_at first line ≡ Some command
unfolding command_at
command_at_only first line command says stands = some_bind (command_of line) (placed first) command (command_only line command says) ∙ placed_only first command stands
