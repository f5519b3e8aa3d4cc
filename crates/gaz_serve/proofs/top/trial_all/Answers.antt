use Rattle.std.proofs.Common.{◌∙◌, refl, inl}
use Rattle.gaz_serve.proofs.Trying.{trial_others, trial_complete}
use Rattle.gaz_serve.proofs.top.trial_all.Goals as goal

pub returns : goal.returns
returns g c = inl (record {
  requests = c.new-requests.result;
  requests_now = c.serve_all.new.requests;
  asks = c.new-requests.ensures;
  sound = record { told = refl; faults = refl };
  sound_now = record { told = refl; faults = refl };
  files = c.new-shelf.result;
  files_now = c.serve_all.new.shelf;
  has = c.new-shelf.ensures.files ∙ c.in-Ok.ensures.files;
  still = record { told = refl; earlier = refl; faults = refl };
  still_now = record { told = refl; earlier = refl; faults = refl };
  ran = c.serve_all.ensures;
  others = trial_others _ _ _ c.new-requests.result c.serve_all.new.requests c.new-shelf.result c.serve_all.new.shelf _ _ _ c.new-requests.ensures (record { told = refl; faults = refl }) (record { told = refl; faults = refl }) c.serve_all.ensures;
  complete = λ no_fault. trial_complete _ _ _ c.new-requests.result c.serve_all.new.requests c.new-shelf.result c.serve_all.new.shelf _ _ _ c.new-requests.ensures (record { told = refl; faults = refl }) (record { told = refl; faults = refl }) no_fault c.serve_all.ensures;
})
