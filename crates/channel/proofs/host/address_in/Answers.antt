use Rattle.std.proofs.Common.{rules, ◌≡◌, true}
use Rattle.channel.specs.Hosts.{Spells, is_of_many}
use Rattle.channel.proofs.Addresses.{none_of_many}
use Rattle.channel.proofs.host.address_in.Goals as goal

pub returns-then-is_of_many-clause-none : goal.returns-then-is_of_many-clause-none
returns-then-is_of_many-clause-none c = λ a is.
    let spelled : Spells c.args.text.now c.in_ok-address.address = search rules in
    let many : is_of_many c.in_ok-address.address ≡ true = search rules in
    none_of_many c.args.text.now c.in_ok-address.address a spelled many is
