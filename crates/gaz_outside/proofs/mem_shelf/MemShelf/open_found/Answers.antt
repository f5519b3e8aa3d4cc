use Rattle.std.proofs.Common.{◌≡◌, ◌<◌, length, Some, refl, arith}
use Rattle.gaz_outside.specs.Listed.{file_named, listed, name_at}
use Rattle.gaz_outside.proofs.Places.{none_named, none_found, is_found, named_within, opened_in-set_same, opened_in-set_other, opened_before}
use Rattle.gaz_outside.proofs.mem_shelf.MemShelf.open_found.Goals as goal

pub returns-in-Some-clause-found : goal.returns-in-Some-clause-found
returns-in-Some-clause-found c =
    let named : name_at (listed c.args.self.now.files.items) c.in-Some.place ≡ Some c.args.name.now = rw (← c.deref-2.ensures.value) c.in-Some.ensures.last.named in
    (λ _. is_found (listed c.args.self.now.files.items) c.args.name.now c.in-Some.place named, λ _. refl)

pub returns-in-Some-clause-opens : goal.returns-in-Some-clause-opens
returns-in-Some-clause-opens c =
    let named : name_at (listed c.args.self.now.files.items) c.in-Some.place ≡ Some c.args.name.now = rw (← c.deref-2.ensures.value) c.in-Some.ensures.last.named in
    let within : c.in-Some.place < length c.args.self.now.files.items = named_within c.args.self.now.files.items c.in-Some.place c.args.name.now named in
    record {
      given = opened_in-set_same (listed c.args.self.now.files.items) c.args.self.now.is_open.items c.in-Some.place c.args.name.now (omega arith) named;
      others = opened_in-set_other (listed c.args.self.now.files.items) c.args.self.now.is_open.items c.in-Some.place;
      before = opened_before (listed c.args.self.now.files.items) c.args.self.now.is_open.items c.in-Some.place c.args.name.now named;
    }

pub returns-in-None-clause-found : goal.returns-in-None-clause-found
returns-in-None-clause-found c =
    let none = none_named (listed c.args.self.now.files.items) c.args.name.now (rw (← c.deref-2.ensures.value) (c.in-None.ensures.none refl)) in
    none_found (file_named (listed c.args.self.now.files.items) c.args.name.now) none
