mod PumpLemmas
