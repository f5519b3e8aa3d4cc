use Rattle.std.proofs.Common.{◌<◌, ◌≤◌, ◌+◌, ◌*◌, arith, subst, length}
use Rattle.std.proofs.lemmas.List.Elements.{All-from_get_or}
use Rattle.gaz_rows.specs.Found.{OverRange}
use Rattle.gaz_rows.proofs.Coded.{code_answered, code_slot, code_sound, code_reads}
use Rattle.gaz_rows.proofs.store.RowStore.search_code.Goals as goal

pub returns-clause-line : goal.returns-clause-line
returns-clause-line g c =
    let code = c.args.code.now in
    code_answered (g.P.Pages.view c.args.self.now.pages) c.args.self.now.root code (All-from_get_or (λ byte. byte < 256) code 0 (λ i below. let fits = c.type_inv.code i in omega (arith, fits)))
    c.scan-scan.result c.code_key_of.result c.code_key_of-2.result (c.code_key_of.ensures, c.code_key_of-2.ensures)
    c.scan-scan.ensures.comes
    c.find_code.new.buf c.find_code.result c.find_code.ensures.code

pub returns-clause-slot : goal.returns-clause-slot
returns-clause-slot g c =
    let code = c.args.code.now in
    code_slot (g.P.Pages.view c.args.self.now.pages) c.args.self.now.root code (All-from_get_or (λ byte. byte < 256) code 0 (λ i below. let fits = c.type_inv.code i in omega (arith, fits)))
    c.scan-scan.result c.code_key_of.result c.code_key_of-2.result (c.code_key_of.ensures, c.code_key_of-2.ensures)
    c.scan-scan.ensures.comes
    c.find_code.new.buf c.find_code.result c.find_code.ensures.code

pub returns-clause-damaged : goal.returns-clause-damaged
returns-clause-damaged g c =
    let code = c.args.code.now in
    code_sound (g.P.Pages.view c.args.self.now.pages) c.args.self.now.root code (All-from_get_or (λ byte. byte < 256) code 0 (λ i below. let fits = c.type_inv.code i in omega (arith, fits)))
    c.scan-scan.result c.code_key_of.result c.code_key_of-2.result (c.code_key_of.ensures, c.code_key_of-2.ensures)
    c.scan-scan.ensures.comes
    c.find_code.result c.find_code.ensures.damaged

pub returns-clause-few : goal.returns-clause-few
returns-clause-few g c =
    let code = c.args.code.now in
    let view = g.P.Pages.view in
    code_reads (g.P.Pages.view c.args.self.now.pages) c.args.self.now.root code (All-from_get_or (λ byte. byte < 256) code 0 (λ i below. let fits = c.type_inv.code i in omega (arith, fits)))
    c.scan-scan.result c.code_key_of.result c.code_key_of-2.result (c.code_key_of.ensures, c.code_key_of-2.ensures)
    c.scan-scan.ensures.comes
    (view c.find_code.new.self.pages).reads (2 * c.args.self.now.root.height + 17)
    (subst (λ height. OverRange c.args.self.now.root.counts.codes (view c.args.self.now.pages) c.scan-scan.result
    (λ left. (view c.find_code.new.self.pages).reads ≤ (view c.args.self.now.pages).reads + (2 * height + 17) * (length left + 1))) c.scan-scan.ensures.height c.find_code.ensures.few)
