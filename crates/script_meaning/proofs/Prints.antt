-- The packets of a state are those that the lines before it printed.
use Rattle.std.proofs.Common.{◌≡◌, ℕ, suc, List, [], ◌∷◌, ◌++◌, length, Result, Ok, Err, inl, inr, refl, sym, ap, ◌∙◌, append-nil}
use Rattle.std.specs.List.{flat_map}
use Rattle.std.proofs.lemmas.Grind.{flat_map-append}
use Rattle.theory.specs.Wire.{Wire}
use Rattle.theory.specs.Control.{setup_at}
use Rattle.publication.specs.declared.refusal.Refusal.{Refusal}
use Rattle.one_hand.specs.Stream.{answer_of}
use Rattle.receiver.specs.Receiving.{replies}
use Rattle.sender.specs.Cycling.{AsksSetup, Misses, NewsContent, Says, TellsNothing, Unreadable, alone, datagrams}
use Rattle.script.specs.Meaning as commands
use Rattle.script.specs.Meaning.{CommandContent}
use Rattle.script_meaning.specs.Answers.{Answers, Claims, Offered, SenderHears, lines_of, or_nothing, packet_lines, wires_of}
use Rattle.script_meaning.specs.LineContents.{LineContent}
use Rattle.script_meaning.specs.Published.{Played, packets_by, packets_in, printed}
use Rattle.script_meaning.specs.ScriptState.{ScriptState}

-- ---- the lines of packets

numbered : (k : ℕ) (packets : List (List ℕ)) → flat_map packets_in (packet_lines k packets) ≡ packets
numbered k [] = refl
numbered k (bytes ∷ rest) = ap (λ xs. bytes ∷ xs) (numbered (suc k) rest)

or_none : (lines : List LineContent) → flat_map packets_in (or_nothing lines) ≡ flat_map packets_in lines
or_none [] = refl
or_none (line ∷ lines) = refl

shown : (s : ScriptState) (sent : List (List Wire)) (lines : List LineContent) → lines ≡ or_nothing (lines_of s sent) → flat_map packets_in lines ≡ datagrams sent
shown s sent lines e = ap (flat_map packets_in) e ∙ or_none (lines_of s sent) ∙ numbered (length s.packets) (datagrams sent)

-- ---- a line

-- what it printed was given out, and nothing else
abbrev Gives : ScriptState → ScriptState → List (List ℕ) → Type 0
Gives s t packets = t.packets ≡ s.packets ++ packets

gives_none : (s t : ScriptState) (packets : List (List ℕ)) → t.packets ≡ s.packets → packets ≡ [] → Gives s t packets
gives_none s t packets same none = same ∙ sym (append-nil s.packets) ∙ ap (λ xs. s.packets ++ xs) (sym none)

gives_some : (s t : ScriptState) (packets more : List (List ℕ)) → t.packets ≡ s.packets ++ more → packets ≡ more → Gives s t packets
gives_some s t packets more same is = same ∙ ap (λ xs. s.packets ++ xs) (sym is)

offered : (s t : ScriptState) (by : ℕ) (m : List ℕ) (answer : Result ℕ Refusal) (lines : List LineContent) → Offered s by m answer lines t → t.packets ≡ s.packets
offered s t by m (Ok end) lines h = ap (λ x. x.packets) h.1
offered s t by m (Err refusal) lines h = ap (λ x. x.packets) h.1

claimed : (s t : ScriptState) (by size : ℕ) (answer : Result ℕ Refusal) (lines : List LineContent) → Claims s by size answer lines t → t.packets ≡ s.packets
claimed s t by size (Ok end) lines h = ap (λ x. x.packets) h.1
claimed s t by size (Err refusal) lines h = ap (λ x. x.packets) h.1

hears : (s t : ScriptState) (now : ℕ) (news : NewsContent) (lines : List LineContent) → SenderHears s now news lines t → Gives s t (flat_map packets_in lines)
hears s t now (Says f) lines h = gives_none s t (flat_map packets_in lines) (ap (λ x. x.packets) h.1) (ap (flat_map packets_in) h.0)
hears s t now AsksSetup lines h =
    let out = alone (setup_at s.log.identity s.sender.at ∷ []) in
    gives_some s t (flat_map packets_in lines) (datagrams out) (ap (λ x. x.packets) h.1) (ap (flat_map packets_in) h.0 ∙ numbered (length s.packets) (datagrams out))
hears s t now (Misses f) lines h = gives_none s t (flat_map packets_in lines) (ap (λ x. x.packets) h.3) (ap (flat_map packets_in) h.1)
hears s t now TellsNothing lines h = gives_none s t (flat_map packets_in lines) (ap (λ x. x.packets) h.1) (ap (flat_map packets_in) h.0)
hears s t now (Unreadable fault) lines h = gives_none s t (flat_map packets_in lines) (ap (λ x. x.packets) h.1) (ap (flat_map packets_in) h.0)

line_prints : (s t : ScriptState) (command : CommandContent) (lines : List LineContent) → Answers s command lines t → Gives s t (packets_by command lines)
line_prints s t (commands.Group size) lines m = gives_none s t [] (ap (λ x. x.packets) m.1) refl
line_prints s t commands.Connect lines m = gives_none s t [] (ap (λ x. x.packets) m.1) refl
line_prints s t commands.Disconnect lines m = gives_none s t [] (ap (λ x. x.packets) m.1) refl
line_prints s t commands.Close lines m = gives_none s t [] (ap (λ x. x.packets) m.1) refl
line_prints s t commands.Limit lines m = gives_none s t [] (ap (λ x. x.packets) m.new_is) refl
line_prints s t (commands.Offer by message) lines (inl m) = gives_none s t [] (ap (λ x. x.packets) m.1.1) refl
line_prints s t (commands.Offer by message) lines (inr m) = gives_none s t [] (offered s t by message (answer_of s.log (length message)) lines m.2) refl
line_prints s t (commands.OfferSize by size) lines (inl m) = gives_none s t [] (ap (λ x. x.packets) m.1.1) refl
line_prints s t (commands.OfferSize by size) lines (inr m) = gives_none s t [] (offered s t by _ (answer_of s.log _) lines m.2) refl
line_prints s t (commands.Claim by size) lines (inl m) = gives_none s t [] (ap (λ x. x.packets) m.1.1) refl
line_prints s t (commands.Claim by size) lines (inr m) = gives_none s t [] (claimed s t by size (answer_of s.log size) lines m.2) refl
line_prints s t (commands.Commit by) lines (inl m) = gives_none s t [] (ap (λ x. x.packets) m.1.1) refl
line_prints s t (commands.Commit by) lines (inr m) = gives_none s t [] (ap (λ x. x.packets) m.3) refl
line_prints s t (commands.Abort by) lines (inl m) = gives_none s t [] (ap (λ x. x.packets) m.1.1) refl
line_prints s t (commands.Abort by) lines (inr m) = gives_none s t [] (ap (λ x. x.packets) m.3) refl
line_prints s t (commands.Read r) lines (inl m) = gives_none s t [] (ap (λ x. x.packets) m.1.1) refl
line_prints s t (commands.Read r) lines (inr (inl m)) = gives_none s t [] (ap (λ x. x.packets) m.4) refl
line_prints s t (commands.Read r) lines (inr (inr m)) = gives_none s t [] (ap (λ x. x.packets) m.6) refl
line_prints s t (commands.Join r) lines (inl m) = gives_none s t [] (ap (λ x. x.packets) m.1.1) refl
line_prints s t (commands.Join r) lines (inr m) = gives_none s t [] (ap (λ x. x.packets) m.new_is) refl
line_prints s t (commands.Leave r) lines (inl m) = gives_none s t [] (ap (λ x. x.packets) m.1.1) refl
line_prints s t (commands.Leave r) lines (inr m) = gives_none s t [] (ap (λ x. x.packets) m.3) refl
line_prints s t (commands.Send now) lines m = gives_some s t (flat_map packets_in lines) (datagrams (wires_of s now m.0)) (ap (λ x. x.packets) m.3) (shown s (wires_of s now m.0) lines m.2)
line_prints s t (commands.Deliver k n now) lines (inl m) = gives_none s t [] (ap (λ x. x.packets) m.2) refl
line_prints s t (commands.Deliver k n now) lines (inr m) = gives_none s t [] (ap (λ x. x.packets) m.2.6) refl
line_prints s t (commands.Raw n now bytes) lines m = gives_none s t [] (ap (λ x. x.packets) m.6) refl
line_prints s t (commands.Tick n now) lines m = gives_some s t (flat_map packets_in lines) (datagrams (alone (replies m.0 now))) (ap (λ x. x.packets) m.4) (shown s (alone (replies m.0 now)) lines m.3)
line_prints s t (commands.Reply k now) lines (inl m) = gives_none s t (flat_map packets_in lines) (ap (λ x. x.packets) m.2) (ap (flat_map packets_in) m.1)
line_prints s t (commands.Reply k now) lines (inr m) = hears s t now m.2.0 lines m.2.2
line_prints s t (commands.RawBack now bytes) lines m = hears s t now m.0 lines m.2
line_prints s t (commands.Poll n) lines m = gives_none s t [] (ap (λ x. x.packets) m.6) refl
line_prints s t (commands.Image n) lines m = gives_none s t [] (ap (λ x. x.packets) m.5) refl

-- behind a line more
pub prints_more : (s t : ScriptState) (done : List Played) (p : Played) → s.packets ≡ printed done → Answers s p.command p.lines t → t.packets ≡ printed (done ++ p ∷ [])
prints_more s t done p was m =
    line_prints s t p.command p.lines m ∙ ap (λ xs. xs ++ packets_by p.command p.lines) was
    ∙ sym (flat_map-append (λ q. packets_by q.command q.lines) done (p ∷ []) ∙ ap (λ xs. printed done ++ xs) (append-nil (packets_by p.command p.lines)))
