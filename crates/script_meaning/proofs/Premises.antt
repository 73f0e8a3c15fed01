-- A script without bytes of its own is honest, and one to which no memory was refused is whole.
use Rattle.std.specs.Prelude.{◌≡◌, ℕ, List, [], ◌∷◌, false}
use Rattle.std.specs.List.{AllByRecursion}
use Rattle.std.proofs.Common.{subst}
use Rattle.theory.proofs.Lists.{all_behind}
use Rattle.script.specs.Meaning as commands
use Rattle.script.specs.Meaning.{CommandContent}
use Rattle.script_meaning.specs.LineContents.{LineContent}
use Rattle.script_meaning.specs.Published.{IsHonestLine, IsWhole, Played, is_refusal}
use Rattle.script_meaning.specs.Premises.{HonestWithoutRaw, PolledWithoutRaw, WholeUnrefused, is_raw}

-- whatever a line is, unless it is of the script's own bytes
pub line_honest : (i : ℕ) (packets : List (List ℕ)) (command : CommandContent) (lines : List LineContent) → is_raw command ≡ false → IsHonestLine i packets command lines
line_honest i packets (commands.Group a) lines e = tt
line_honest i packets commands.Connect lines e = tt
line_honest i packets commands.Disconnect lines e = tt
line_honest i packets commands.Close lines e = tt
line_honest i packets commands.Limit lines e = tt
line_honest i packets (commands.Offer a c) lines e = tt
line_honest i packets (commands.OfferSize a c) lines e = tt
line_honest i packets (commands.Claim a c) lines e = tt
line_honest i packets (commands.Commit a) lines e = tt
line_honest i packets (commands.Abort a) lines e = tt
line_honest i packets (commands.Read a) lines e = tt
line_honest i packets (commands.Join a) lines e = tt
line_honest i packets (commands.Leave a) lines e = tt
line_honest i packets (commands.Send a) lines e = tt
line_honest i packets (commands.Deliver a c d) lines e = tt
line_honest i packets (commands.Raw a c d) lines e = absurd (cc)
line_honest i packets (commands.Tick a c) lines e = tt
line_honest i packets (commands.Reply a c) lines e = tt
line_honest i packets (commands.RawBack a c) lines e = tt
line_honest i packets (commands.Poll a) lines e = tt
line_honest i packets (commands.Image a) lines e = tt

pub honest_without_raw : HonestWithoutRaw
honest_without_raw i played none done later p parts =
    line_honest i _ p.command p.lines (all_behind (λ (x : Played). is_raw x.command ≡ false) done (p ∷ later) (subst (AllByRecursion (λ (x : Played). is_raw x.command ≡ false)) parts none)).0

-- whatever a line is, where it says of no memory that it was refused
pub line_whole : (i : ℕ) (command : CommandContent) (lines : List LineContent) → AllByRecursion (λ line. is_refusal line ≡ false) lines → IsWhole i command lines
line_whole i (commands.Group a) lines all = tt
line_whole i commands.Connect lines all = tt
line_whole i commands.Disconnect lines all = tt
line_whole i commands.Close lines all = tt
line_whole i commands.Limit lines all = tt
line_whole i (commands.Offer a c) lines all = tt
line_whole i (commands.OfferSize a c) lines all = tt
line_whole i (commands.Claim a c) lines all = tt
line_whole i (commands.Commit a) lines all = tt
line_whole i (commands.Abort a) lines all = tt
line_whole i (commands.Read a) lines all = tt
line_whole i (commands.Join a) lines all = tt
line_whole i (commands.Leave a) lines all = tt
line_whole i (commands.Send a) lines all = tt
line_whole i (commands.Deliver a c d) lines all = tt
line_whole i (commands.Raw a c d) lines all = tt
line_whole i (commands.Tick a c) lines all = tt
line_whole i (commands.Reply a c) lines all = tt
line_whole i (commands.RawBack a c) lines all = tt
line_whole i (commands.Poll a) lines all = λ mine. all
line_whole i (commands.Image a) lines all = tt

pub whole_unrefused : WholeUnrefused
whole_unrefused i [] all = tt
whole_unrefused i (p ∷ ps) all = (line_whole i p.command p.lines all.0, whole_unrefused i ps all.1)

pub polled_without_raw : PolledWithoutRaw
polled_without_raw g played polled none all i low = (polled i low (whole_unrefused i played all) (honest_without_raw i played none)).0
