use Rattle.cached.proofs.cached.CachedStore.recover.Goals as goal

pub invariant_of-self : goal.invariant_of-self
invariant_of-self g c =
    let rows = (g.S.Store.view c.recover.new.self).rows in
    record {
      tags_right = λ clean. c.clear.ensures rows;
      stations_right = λ clean. c.clear-2.ensures rows;
      readings_right = λ clean. c.clear-3.ensures rows;
    }
