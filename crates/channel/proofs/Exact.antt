-- What is read is the only thing that the text is.
use Rattle.std.proofs.Common.{◌≡◌, ◌∙◌, inl, inr, ℕ, List, ◌++◌, Option, Some, Result, Ok, Err, drop, false, sym, ap, subst}
use Rattle.std.specs.Prelude.{ℤ, IfOk, IfErr, IsOkAnd}
use Rattle.channel.specs.declared.channel.Channel.{Channel}
use Rattle.channel.specs.declared.channel.Start.{Start}
use Rattle.channel.specs.declared.channel.Transport.{Transport}
use Rattle.channel.specs.declared.endpoint.Endpoint.{Endpoint}
use Rattle.channel.specs.declared.settings.Settings.{Settings}
use Rattle.channel.specs.declared.fault.ChannelFault.{ChannelFault}
use Rattle.channel.specs.declared.fault.ChannelFault.TheVariants.{Prefix, Part, Unknown, Repeated, Value, NoEndpoint, Families, Ttl, Apart}
use Rattle.channel.specs.Settings.{Sets, nothing}
use Rattle.channel.specs.Channels.{IsChannel, IsEndFault, IsFirstFault, IsMadeOf, has_lost_ttl, is_mixed, parts, prefix, transport_of}
use Rattle.channel.proofs.Meanings.{sets_once, no_fault_among, some_once}

one_rest : (text a b : List ℕ) → text ≡ prefix ++ a → text ≡ prefix ++ b → a ≡ b
one_rest text a b h k = ap (λ (xs : List ℕ). drop 10 xs) (sym h ∙ k)

abbrev of : Transport → Option ℕ → Option ℕ → Option ℤ → Option Start → Channel
of transport mtu term_length session_id start = record { transport = transport; mtu = mtu; term_length = term_length; session_id = session_id; start = start }

transport_once : (s : Settings) (c d : Channel) → IsMadeOf s c → IsMadeOf s d → c.transport ≡ d.transport
transport_once s c d h k =
    h.transport ∙ ap (transport_of s) (some_once s.endpoint c.transport.endpoint d.transport.endpoint h.endpoint k.endpoint) ∙ sym k.transport

made_once : (s : Settings) (c d : Channel) → IsMadeOf s c → IsMadeOf s d → c ≡ d
made_once s c d h k =
    ap (λ (x : Transport). of x c.mtu c.term_length c.session_id c.start) (transport_once s c d h k)
    ∙ ap (λ (x : Option ℕ). of d.transport x c.term_length c.session_id c.start) (h.mtu ∙ sym k.mtu)
    ∙ ap (λ (x : Option ℕ). of d.transport d.mtu x c.session_id c.start) (h.term_length ∙ sym k.term_length)
    ∙ ap (λ (x : Option ℤ). of d.transport d.mtu d.term_length x c.start) (h.session_id ∙ sym k.session_id)
    ∙ ap (λ (x : Option Start). of d.transport d.mtu d.term_length d.session_id x) (some_once _ c.start d.start h.start k.start)

one_channel : (text : List ℕ) (c d : Channel) → IsChannel text c → IsChannel text d → c ≡ d
one_channel text c d h k =
    let rest = one_rest text h.rest k.rest h.begins k.begins in
    let same = sets_once nothing h.settings k.settings (parts k.rest) (subst (λ r. Sets nothing (parts r) h.settings) rest h.sets) k.sets in
    made_once k.settings c d (subst (λ s. IsMadeOf s c) same h.made) k.made

same_transport : (s : Settings) (c : Channel) (e : Endpoint) → IsMadeOf s c → s.endpoint ≡ Some e → c.transport ≡ transport_of s e
same_transport s c e h there = h.transport ∙ ap (transport_of s) (some_once s.endpoint c.transport.endpoint e h.endpoint there)

no_end_fault : (s : Settings) (c : Channel) (fault : ChannelFault) → IsMadeOf s c → IsEndFault s fault → ⊥
no_end_fault s c Prefix h wrong = wrong
no_end_fault s c (Part whole) h wrong = wrong
no_end_fault s c (Unknown name) h wrong = wrong
no_end_fault s c (Repeated p) h wrong = wrong
no_end_fault s c (Value p value) h wrong = wrong
no_end_fault s c NoEndpoint h wrong = let there = h.endpoint in cc
no_end_fault s c Families h (e, there, mixed) =
    let one = same_transport s c e h there in
    let apart : is_mixed (transport_of s e) ≡ false = subst (λ t. is_mixed t ≡ false) one h.fit.one_family in
    cc
no_end_fault s c Ttl h (e, there, one_family, lost) =
    let one = same_transport s c e h there in
    let apart : has_lost_ttl (transport_of s e) ≡ false = subst (λ t. has_lost_ttl t ≡ false) one h.fit.no_lost_ttl in
    cc
no_end_fault s c Apart h (e, there, one_family, kept, none) = let start = h.start in cc

no_fault : (text : List ℕ) (c : Channel) (fault : ChannelFault) → IsChannel text c → IsFirstFault text fault → ⊥
no_fault text c fault h (inl (is, none)) = none h.rest h.begins
no_fault text c fault h (inr (rest, begins, inl f)) =
    let same = one_rest text h.rest rest h.begins begins in
    no_fault_among nothing h.settings f.settings f.before f.part f.behind fault (subst (λ ps. Sets nothing ps h.settings) (ap parts same ∙ f.cut) h.sets) f.sets f.wrong
no_fault text c fault h (inr (rest, begins, inr f)) =
    let same = one_rest text h.rest rest h.begins begins in
    let set = sets_once nothing h.settings f.settings (parts rest) (subst (λ r. Sets nothing (parts r) h.settings) same h.sets) f.sets in
    no_end_fault f.settings c fault (subst (λ s. IsMadeOf s c) set h.made) f.wrong

pub exact : (text : List ℕ) (r : Result Channel ChannelFault) → IfOk r (λ c. IsChannel text c) → IfErr r (λ f. IsFirstFault text f) → (c : Channel) → IsChannel text c → IsOkAnd r (λ x. x ≡ c)
exact text (Ok x) h k c is = one_channel text x c h is
exact text (Err f) h k c is = absurd (no_fault text c f is k)
