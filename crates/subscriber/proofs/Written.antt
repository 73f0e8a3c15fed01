-- Messages that were written, and more behind them.
use Rattle.std.proofs.Common.{ℕ, List, [], ◌++◌, Option, sym, subst, arith, length-append}
use Rattle.std.specs.Io.KnownBytes.{Appends}
use Rattle.std.proofs.KnownBytes.{Appends-nil, Appends-trans}
use Rattle.std.proofs.lemmas.Grind.{flat_map-append}
use Rattle.messages.specs.Forms.{spelled}
use Rattle.messages.specs.declared.form.Form.{Form}
use Rattle.subscriber.specs.Living.{Writes}

pub writes_none : (form : Form) (count : ℕ) (before : Option (List ℕ)) → Writes form count before count before
writes_none form count before = record { messages = []; counted = omega arith; written = Appends-nil before }

pub writes_more : (form : Form) (count more most : ℕ) (a b c : Option (List ℕ)) → Writes form count a more b → Writes form more b most c → Writes form count a most c
writes_more form count more most a b c first then = record {
  messages = first.messages ++ then.messages;
  counted = omega (arith, first.counted, then.counted, length-append first.messages then.messages);
  written = subst (Appends a c) (sym (flat_map-append (spelled form) first.messages then.messages)) (Appends-trans _ _ _ _ _ first.written then.written);
}
