use Rattle.std.proofs.Common.{◌≡◌, ◌≢◌, ◌+◌, ◌∙◌, sym, arith, length, rules}
use Rattle.std.proofs.lemmas.Bool.Decides.{nat_tests}
use Rattle.std.proofs.lemmas.Result.{err_from_is_err_and}
use Rattle.file.proofs.Loads.{read-of, run-accepted, run-done, run-refused, run-unread, unread-of}
use Rattle.file.proofs.loading.make_all.Goals as goal

pub returns-in_err-reading-clause-stops : goal.returns-in_err-reading-clause-stops
returns-in_err-reading-clause-stops c =
    let some : length c.loop-rest.rest.now ≢ 0 = grind (arith, nat_tests, c.loop-rest-test.ensures) in
    let p = err_from_is_err_and c.from_residual.result c.from_residual.ensures.1 in
    let k = unread-of c.first_piece.result.0.now (c.loop-rest.line + 1) c.read.result c.map_err.result _ c.read.ensures.found c.map_err.ensures.cases c.in_err-reading.was (λ e f told. search rules) in
    rw (p.1, p.2)
    (run-unread _ _ c.loop-rest.rest.now c.first_piece.result.0.now c.first_piece.result.1.now _ c.loop-rest.invariant.0 (c.first_piece.ensures.first some) k.0 _ k.1 k.2)

pub returns-in_err-make-clause-stops : goal.returns-in_err-make-clause-stops
returns-in_err-make-clause-stops c =
    let some : length c.loop-rest.rest.now ≢ 0 = grind (arith, nat_tests, c.loop-rest-test.ensures) in
    let p = err_from_is_err_and c.from_residual-in_err-make.result c.from_residual-in_err-make.ensures.1 in
    let k = read-of _ c.first_piece.result.0.now c.read.result c.map_err.result _ c.read.ensures.found c.map_err.ensures.cases c.in_ok-reading.was in
    rw (p.1, p.2)
    (run-refused _ _ c.loop-rest.rest.now c.first_piece.result.0.now c.first_piece.result.1.now _ c.loop-rest.invariant.0 (c.first_piece.ensures.first some) _ c.call.result k c.call.ensures _ c.in_err-make.ensures.stops)

pub loop-rest-preserved : goal.loop-rest-preserved
loop-rest-preserved c =
    let some : length c.loop-rest.rest.now ≢ 0 = grind (arith, nat_tests, c.loop-rest-test.ensures) in
    let k = read-of _ c.first_piece.result.0.now c.read.result c.map_err.result _ c.read.ensures.found c.map_err.ensures.cases c.in_ok-reading.was in (
      run-accepted _ _ c.loop-rest.rest.now c.first_piece.result.0.now c.first_piece.result.1.now _ c.loop-rest.invariant.0 (c.first_piece.ensures.first some) _ c.call.result k c.call.ensures _ c.in_ok-make.ensures.makes,
      omega (arith, c.first_piece.ensures.shorter some),
    )

pub returns-clause-makes : goal.returns-clause-makes
returns-clause-makes c =
    let none : length c.loop-rest.rest.now ≡ 0 = grind (arith, nat_tests, c.loop-rest-test.ensures) in
    sym c.loop-rest.invariant.0 ∙ run-done _ _ c.loop-rest.rest.now none
