-- What a publisher, a reader and the keeper hold beside their pass, over a step of it.
use Rattle.std.proofs.Common.{◌≡◌, ℕ, ◌<◌, Bool, List, sym, ap, ◌∙◌, subst, refl}
use Rattle.std.specs.Prelude.{Option}
use Rattle.theory.specs.Bytes.{Identity}
use Rattle.publication.specs.declared.pass.Pass.{Pass}
use Rattle.publication.specs.declared.pass.Reading.{Reading}
use Rattle.log_rule.specs.Readings.{Consumes, Looks, with_consumer}
use Rattle.shared_log.specs.Steps.Handles.{LogId, PublisherValue}
use Rattle.shared_log.specs.Steps.Readers.{SameSeat}
use Rattle.region.specs.Identity as regions
use Rattle.shared_log.specs.declared.home.Home.{Home}
use Rattle.shared_log.specs.Handles.{HasHome, IsPublisher, IsPublishing}
use Rattle.shared_log.specs.Keepers.{IsKeeper, IsKeeping, KnowsWho}
use Rattle.shared_log.specs.Readers.{IsReader, IsReading}
use mathlib.Core.Logic.{dite}
use native.Mathlib.Decide.{dec_le}
use Rattle.std.proofs.Common.{lt_of_not-le, arith}

home_on : (r r' : regions.Identity) (home : Option Home) → r' ≡ r → HasHome r home → HasHome r' home
home_on r r' home e has = subst (λ (x : regions.Identity). HasHome x home) (sym e) has

pub publisher_kept : {p q : PublisherValue} {home : Option Home} {freed number share number' share' : ℕ} {i : Identity} {s : ℕ}
    → IsPublisher p home freed number share i s → q.of ≡ p.of → q.freed ≡ p.freed → q.pass.identity ≡ p.pass.identity → q.pass.start ≡ p.pass.start → IsPublishing q.pass number' share' → IsPublisher q home freed number' share' i s
publisher_kept {p = p} {q = q} {home = home} is of freed identity start publishing = record {
  publishing = publishing;
  home_is = home_on p.of.region q.of.region home (ap (λ (x : LogId). x.region) of) is.home_is;
  freed_is = is.freed_is ∙ sym freed;
  identity_is = is.identity_is ∙ sym identity;
  start_is = is.start_is ∙ sym start;
}

pub keeper_kept : {p q : PublisherValue} {home : Option Home} {freed limit cleaned limit' cleaned' : ℕ} {there there' : List Bool} {i : Identity} {s : ℕ}
    → IsKeeper p home freed limit cleaned there i s → q.of ≡ p.of → q.freed ≡ p.freed → q.pass.identity ≡ p.pass.identity → q.pass.start ≡ p.pass.start → IsKeeping q.pass limit' cleaned' → KnowsWho q.pass there' → IsKeeper q home freed limit' cleaned' there' i s
keeper_kept {p = p} {q = q} {home = home} is of freed identity start keeping knows = record {
  keeping = keeping;
  knows = knows;
  home_is = home_on p.of.region q.of.region home (ap (λ (x : LogId). x.region) of) is.home_is;
  freed_is = is.freed_is ∙ sym freed;
  identity_is = is.identity_is ∙ sym identity;
  start_is = is.start_is ∙ sym start;
}

pub reader_kept : {p q : PublisherValue} {home : Option Home} {freed place number position read_to after end : ℕ} {i : Identity} {s : ℕ}
    → IsReader p home freed place number position read_to i s → SameSeat p q → q.pass ≡ record p.pass { reading = q.pass.reading } → IsReading q.pass place number after end → IsReader q home freed place number after end i s
reader_kept {p = p} {q = q} {home = home} is seat e reading = record {
  reading = reading;
  home_is = λ some. home_on p.of.region q.of.region home (ap (λ (x : LogId). x.region) seat.of) (is.home_is (subst (λ (n : ℕ). 0 < n) (ap (λ (v : Pass). v.right.parts) e) some));
  freed_is = is.freed_is ∙ sym seat.freed;
  identity_is = is.identity_is ∙ sym (ap (λ (v : Pass). v.identity) e);
  start_is = is.start_is ∙ sym (ap (λ (v : Pass). v.start) e);
}

-- only what its consumers know and where they stand is another
rest_of : (v w : Pass) (place : ℕ) (x : Reading) → w ≡ with_consumer v place x → w ≡ record v { reading = w.reading }
rest_of v w place x e = subst (λ (u : Pass). u ≡ record v { reading = u.reading }) (sym e) refl

pub looked_rest : (v w : Pass) (place number position read_to n : ℕ) → IsReading v place number position read_to → Looks v place n w → w ≡ record v { reading = w.reading }
looked_rest v w place number position read_to n is told =
    let l = told is.consumer is.is in
    dite (dec_le 1 n) (λ pos. rest_of v w place _ (l.found pos).after) (λ no. rest_of v w place _ (l.none (zero_is n (lt_of_not-le no))).0)
  where
    zero_is : (n : ℕ) → n < 1 → n ≡ 0
    zero_is n lt = omega arith

pub passed_rest : (v w : Pass) (place number position read_to : ℕ) → IsReading v place number position read_to → Consumes v place read_to w → w ≡ record v { reading = w.reading }
passed_rest v w place number position read_to is told = rest_of v w place _ (told is.consumer is.is).after
