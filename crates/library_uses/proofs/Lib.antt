mod HookLemmas
