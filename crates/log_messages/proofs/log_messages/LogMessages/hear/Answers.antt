use Rattle.std.proofs.Common.{◌≤◌, ◌<◌, ◌^◌, ℕ, sym, subst, length}
use Rattle.std.specs.Prelude.{IfErr, IfOk, option_map}
use Rattle.theory.specs.Bytes.{Identity}
use Rattle.theory.specs.Position.{IsGeometry}
use Rattle.shared_log.specs.Sourced.{placed}
use Rattle.log_messages.specs.Reading.{FindsNone, HearsOne, Reading, RefusesOne}
use Rattle.log_messages.proofs.Read.{after_of, hears_if, keeps_read, none, passed, refuses_if, shown}
use Rattle.log_messages.proofs.log_messages.LogMessages.hear.Goals as goal

pub returns-in_default-clause-none : goal.returns-in_default-clause-none
returns-in_default-clause-none c =
    let i = c.self.inside in let m : Reading = record { reader = i.reader; assembler = i.assembler; begun_at = i.begun_at; has_refused = i.has_refused } in
    subst (λ (x : Reading). FindsNone x (record m { reader = c.next.new.reader })) c.self.view_is (none m c.next.new.reader i.block c.next.new.block c.in_default.ensures.none)

pub invariant_of-self-2 : goal.invariant_of-self-2
invariant_of-self-2 c =
    let i = c.self.inside in let h = c.in-Some.ensures.found in let f = placed h.finds.frame in
    let legal : IsGeometry c.args.log.now.identity.geometry = subst (λ (x : Identity). IsGeometry x.geometry) c.requires.of.identity (subst (λ (x : Reading). IsGeometry x.reader.held.pass.identity.geometry) c.self.view_is c.self.invariant.0.legal) in
    let p = passed c.args.log.now i.reader c.next.new.reader c.advance.new.reader c.in-Some.head i.block c.next.new.block legal c.in-Some.ensures.fits h c.advance.ensures.advances in
    let same = shown i.reader.position f.frame c.in-Some.head c.next.new.block _ h.finds.shown h.copied in (
      keeps_read i.begun_at i.reader c.advance.new.reader i.assembler c.join-step.new.assembler i.has_refused c.is_err.result f _ c.join-step.result c.self.invariant.0 p same c.is_err.ensures.value c.join-step.ensures.taken,
      subst (λ (n : ℕ). c.advance.new.reader.held.pass.identity.geometry.mtu ≤ n) (sym c.in-Some.ensures.same_length) (subst (λ (x : Identity). x.geometry.mtu ≤ length i.block) (sym p.identity) c.self.invariant.1),
    )

pub returns-clause-heard : goal.returns-clause-heard
returns-clause-heard c =
    let i = c.self.inside in let h = c.in-Some.ensures.found in let f = placed h.finds.frame in
    let m : Reading = record { reader = i.reader; assembler = i.assembler; begun_at = i.begun_at; has_refused = i.has_refused } in
    let legal : IsGeometry c.args.log.now.identity.geometry = subst (λ (x : Identity). IsGeometry x.geometry) c.requires.of.identity (subst (λ (x : Reading). IsGeometry x.reader.held.pass.identity.geometry) c.self.view_is c.self.invariant.0.legal) in
    let p = passed c.args.log.now i.reader c.next.new.reader c.advance.new.reader c.in-Some.head i.block c.next.new.block legal c.in-Some.ensures.fits h c.advance.ensures.advances in
    let same = shown i.reader.position f.frame c.in-Some.head c.next.new.block _ h.finds.shown h.copied in
    subst (λ (x : Reading). IfOk c.join-step.result (λ y. HearsOne x (option_map (λ z. z.bytes.items) y) (after_of m c.advance.new.reader c.join-step.new.assembler c.is_err.result))) c.self.view_is
    (hears_if m c.advance.new.reader c.join-step.new.assembler c.is_err.result f _ c.join-step.result c.self.invariant.0 p same c.is_err.ensures.value (subst (λ (n : ℕ). n < 2 ^ 64) c.advance.ensures.answer c.advance.type_inv) c.join-step.ensures.taken)

pub returns-clause-refused : goal.returns-clause-refused
returns-clause-refused c =
    let i = c.self.inside in let h = c.in-Some.ensures.found in let f = placed h.finds.frame in
    let m : Reading = record { reader = i.reader; assembler = i.assembler; begun_at = i.begun_at; has_refused = i.has_refused } in
    let legal : IsGeometry c.args.log.now.identity.geometry = subst (λ (x : Identity). IsGeometry x.geometry) c.requires.of.identity (subst (λ (x : Reading). IsGeometry x.reader.held.pass.identity.geometry) c.self.view_is c.self.invariant.0.legal) in
    let p = passed c.args.log.now i.reader c.next.new.reader c.advance.new.reader c.in-Some.head i.block c.next.new.block legal c.in-Some.ensures.fits h c.advance.ensures.advances in
    let same = shown i.reader.position f.frame c.in-Some.head c.next.new.block _ h.finds.shown h.copied in
    subst (λ (x : Reading). IfErr c.join-step.result (λ y. RefusesOne x y (after_of m c.advance.new.reader c.join-step.new.assembler c.is_err.result))) c.self.view_is
    (refuses_if m c.advance.new.reader c.join-step.new.assembler c.is_err.result f _ c.join-step.result p same (subst (λ (n : ℕ). n < 2 ^ 64) c.advance.ensures.answer c.advance.type_inv) c.join-step.ensures.refused)
