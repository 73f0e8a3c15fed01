use Rattle.std.proofs.Common.{◌≡◌, ℕ, ◌+◌, ◌-◌, ◌≤◌, List, [], ◌++◌, drop, length, length-drop, take, sym, ap, ◌∙◌, arith}
use Rattle.std.proofs.lemmas.List.{append-nil, length-take-le, nil_from_length}
use Rattle.region.specs.declared.access.WriteAccess.{WriteAccess}
use Rattle.log_memory.proofs.drafts.write_parts.Goals as goal

pub write-home-requires-clause-fits : goal.write-home-requires-clause-fits
write-home-requires-clause-fits c =
    let fits = c.requires.fits in let h = c.requires.header in
    let e : length c.split_at-head.result.0.items ≡ 32 = ap (λ (w : WriteAccess). length w.items) c.split_at-head.ensures.front ∙ length-take-le 32 c.args.run.items (omega arith) in omega arith

pub write-home-requires-2-clause-fits : goal.write-home-requires-2-clause-fits
write-home-requires-2-clause-fits c =
    let fits = c.requires.fits in
    let e : length c.split_at-head.result.1.items ≡ length c.args.run.items - 32 = ap (λ (w : WriteAccess). length w.items) c.split_at-head.ensures.back ∙ length-drop 32 c.args.run.items in omega arith

-- the header is all of the first run
nothing_left : (run : WriteAccess) (header : List ℕ) → length header ≡ 32 → 32 ≤ length run.items → drop (length header) (take 32 run.items) ≡ []
nothing_left run header h long = nil_from_length (drop (length header) (take 32 run.items)) (length-drop (length header) (take 32 run.items) ∙ (let a : length (take 32 run.items) ≡ 32 = length-take-le 32 run.items long in let e : length (take 32 run.items) - length header ≡ 0 = omega arith in e))

pub append-requires : goal.append-requires
append-requires c =
    let fits = c.requires.fits in let h = c.requires.header in let s = c.split_at-head.ensures in let a = c.write-home.ensures.written in let b = c.write-home-2.ensures.written in
    let first : c.write-home.result.1.at ≡ c.args.run.at = ap (λ (w : WriteAccess). w.at) a ∙ ap (λ (w : WriteAccess). w.at) s.front in
    let second : c.write-home-2.result.1.at ≡ c.args.run.at + 32 = ap (λ (w : WriteAccess). w.at) b ∙ ap (λ (w : WriteAccess). w.at) s.back in
    let long : length c.write-home.result.1.items ≡ 32 = ap (λ (w : WriteAccess). length w.items) a ∙ ap (λ (w : WriteAccess). length (c.args.header.now ++ drop (length c.args.header.now) w.items)) s.front ∙ ap (λ (l : List ℕ). length (c.args.header.now ++ l)) (nothing_left c.args.run c.args.header.now h (omega arith)) ∙ ap length (append-nil c.args.header.now) ∙ h in
    (ap (λ (w : WriteAccess). w.identity) b ∙ ap (λ (w : WriteAccess). w.identity) s.back ∙ sym (ap (λ (w : WriteAccess). w.identity) a ∙ ap (λ (w : WriteAccess). w.identity) s.front), omega arith)

pub returns-clause-written : goal.returns-clause-written
returns-clause-written c =
    let fits = c.requires.fits in let h = c.requires.header in let s = c.split_at-head.ensures in let a = c.write-home.ensures.written in let b = c.write-home-2.ensures.written in
    let one : c.write-home.result.1 ≡ record c.args.run { items = c.args.header.now } = a ∙ ap (λ (w : WriteAccess). record w { items = c.args.header.now ++ drop (length c.args.header.now) w.items }) s.front ∙ (λ j. record c.args.run { items = (ap (λ (l : List ℕ). c.args.header.now ++ l) (nothing_left c.args.run c.args.header.now h (omega arith)) ∙ append-nil c.args.header.now) j }) in
    let two : c.write-home-2.result.1.items ≡ c.args.payload.now ++ drop (length c.args.payload.now) (drop 32 c.args.run.items) = ap (λ (w : WriteAccess). w.items) b ∙ ap (λ (w : WriteAccess). c.args.payload.now ++ drop (length c.args.payload.now) w.items) s.back in
    c.append.ensures ∙ (λ j. record (one j) { items = (one j).items ++ two j })
