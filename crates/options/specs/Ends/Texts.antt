-- What a user reads of a fault.
use Rattle.std.specs.Prelude.{ℕ, List, ◌++◌, codes, decimal}
use Rattle.channel.specs.Texts as channels
use Rattle.channel.specs.Texts.{range_of}
use Rattle.channel.specs.declared.parameter.Parameter.TheVariants as parameters
use Rattle.options.specs.declared.ends.fault.EndFault.{EndFault}
use Rattle.options.specs.declared.ends.fault.EndFault.TheVariants.{Channel, TermLength, Mtu, Start, Rates}
use Rattle.options.specs.declared.ends.way_fault.WayFault.{WayFault}
use Rattle.options.specs.declared.ends.way_fault.WayFault.TheVariants as ways

abbrev pub text_of : EndFault → List ℕ
text_of (Channel fault) = channels.text_of fault
text_of (TermLength bytes) = codes "channel: term-length=" ++ decimal bytes ++ codes ": " ++ range_of parameters.TermLength
text_of (Mtu bytes) = codes "channel: mtu=" ++ decimal bytes ++ codes ": " ++ range_of parameters.Mtu
text_of Start = codes "channel: term-id isn't before init-term-id, and term-offset is " ++ range_of parameters.TermOffset
text_of Rates = codes "E1 rates"

abbrev pub way_text : WayFault → List ℕ
way_text ways.Many = codes "to: more than eight endpoints, with the channel's"
way_text (ways.Endpoint text) = codes "to: " ++ text.now ++ codes ": " ++ range_of parameters.Endpoint
way_text (ways.Family text) = codes "to: " ++ text.now ++ codes " doesn't go with the channel's interface or ttl"
way_text (ways.Twice text) = codes "to: " ++ text.now ++ codes " stands twice"
way_text ways.Memory = codes "memory"
